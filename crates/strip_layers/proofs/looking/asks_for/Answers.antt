use Rattle.std.proofs.Common.{◌≡◌, ◌+◌, ◌<◌, ◌∙◌, ◌++◌, ◌∷◌, [], ℕ, List, ap, arith, get_or, inl, inr, length, map, subst, sym}
use Rattle.std.proofs.lemmas.Bool.{cases_eq}
use Rattle.std.proofs.lemmas.List.{get_or-map, get_or_append_left, length-append, length-map}
use Rattle.std.proofs.Math.Seq.{get_or-append_seam}
use Rattle.strip_film.specs.declared.path.Path.{Path}
use Rattle.strip_film.specs.Path.{PathData}
use Rattle.strip_film.specs.Shown.{path_data}
use Rattle.strip_layers.specs.declared.ask.Ask.{Ask}
use Rattle.strip_layers.specs.Walked.{IsAskFor}
use Rattle.strip_layers.proofs.looking.asks_for.Goals as goal

pub loop-path-preserved : goal.loop-path-preserved
loop-path-preserved c =
    let items : List Path = c.args.paths.now in
    let asks : List Ask = c.loop-path.asks.items in
    let ask : Ask = c.ask_for.result in
    let lines = c.args.search.now.sheet.lines.items in
    record {
      count = ap length c.in_ok-push.ensures.items ∙ length-append asks (ask ∷ []) ∙ ap (λ (n : ℕ). n + 1) c.loop-path.invariant.count;
      each = λ kind film are place p d less within.
          subst (λ (xs : List Ask). IsAskFor kind film lines c.args.limit (get_or (map path_data items) place p) (get_or xs place d)) (sym c.in_ok-push.ensures.items)
          (elim (cases_eq place c.loop-path.path-index) [
            | inl same ↦ (let here : get_or (asks ++ ask ∷ []) place d ≡ ask
                = ap (λ (k : ℕ). get_or (asks ++ ask ∷ []) k d) (same ∙ sym c.loop-path.invariant.count) ∙ get_or-append_seam asks ask [] d in
                let path : get_or (map path_data items) place p ≡ path_data c.path-item.result
                = ap (λ (k : ℕ). get_or (map path_data items) k p) same
                ∙ get_or-map path_data items c.loop-path.path-index c.path-item.result p c.loop-path-test.true ∙ ap path_data (sym c.path-item.is) in
                subst (λ (a : Ask). IsAskFor kind film lines c.args.limit (get_or (map path_data items) place p) a) (sym here)
                (subst (λ (q : PathData). IsAskFor kind film lines c.args.limit q ask) (sym path) (c.ask_for.ensures kind film are)))
            | inr other ↦ (let before : place < c.loop-path.path-index = omega (arith, less, other) in
                subst (IsAskFor kind film lines c.args.limit (get_or (map path_data items) place p))
                (sym (get_or_append_left asks (ask ∷ []) d place (omega (arith, before, c.loop-path.invariant.count))))
                (c.loop-path.invariant.each kind film are place p d before within))
          ]);
    }

pub returns : goal.returns
returns c = λ kind film are.
    let items : List Path = c.args.paths.now in
    let all : length items ≡ c.loop-path.path-index = omega (arith, c.loop-path-test.false, c.loop-path.auto.path-index-end) in (
      c.loop-path.invariant.count ∙ sym all ∙ sym (length-map items path_data),
      λ place p d within. c.loop-path.invariant.each kind film are place p d (omega (arith, within, all, length-map items path_data))
          (omega (arith, within, length-map items path_data)),
    )
