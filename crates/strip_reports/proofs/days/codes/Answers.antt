use Rattle.std.proofs.Common.{◌∷◌, ◌++◌, [], map, arith, sym, ap, ◌∙◌}
use Rattle.std.specs.List.{range_with_len}
use Rattle.std.proofs.lemmas.List.{map-append}
use Rattle.std.proofs.lemmas.List.FromFn.{map-range_with_len_more}
use Rattle.strip_reports.specs.Codes.{code_word}
use Rattle.strip_reports.specs.Days.{day_code}
use Rattle.strip_reports.proofs.Counted.{code_told, next_done}
use Rattle.strip_reports.proofs.days.codes.Goals as goal

pub loop-crew-preserved : goal.loop-crew-preserved
loop-crew-preserved c =
    let crews = c.args.crews.now in
    let actor = c.args.actor in
    let k = c.loop-crew.crew-index in
    let done = c.counted-done.ensures
    ∙ next_done crews actor k c.loop-crew.done c.has-works.result (omega arith) c.has-works.ensures c.loop-crew.invariant.done in
    record {
      done = done;
      codes = ap (map code_word) c.in_ok-push.ensures.items ∙ map-append code_word c.loop-crew.codes.items (c.code_of.result ∷ [])
          ∙ ap (λ list. list ++ code_word c.code_of.result ∷ []) c.loop-crew.invariant.codes
          ∙ ap (λ last. map (day_code crews actor) (range_with_len 0 k) ++ last ∷ [])
          (c.code_of.ensures ∙ code_told crews actor k c.loop-crew.done c.counted-done.result c.args.work c.has-works.result
          c.has-works.ensures c.loop-crew.invariant.done done c.requires.work)
          ∙ sym (map-range_with_len_more (day_code crews actor) 0 k k (omega arith));
    }
