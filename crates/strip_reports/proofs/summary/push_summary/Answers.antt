use Rattle.std.proofs.Common.{◌++◌, length, decimal, ap, ◌∙◌, arith}
use Rattle.std.proofs.lemmas.Result.{on_ok_weaker}
use Rattle.strip_model.proofs.Counts.{length-order}
use Rattle.strip_model.specs.FilmOf.{film_of}
use Rattle.strip_reports.specs.Days.{days_of}
use Rattle.strip_model.specs.Pay.{pay_of}
use Rattle.strip_reports.proofs.Sentence.{sentence, sentence_made}
use Rattle.strip_reports.proofs.summary.push_summary.Goals as goal

pub days_of-requires-clause-short : goal.days_of-requires-clause-short
days_of-requires-clause-short c =
    omega (
      arith,
      length-order (length c.args.inst.now.scenes) c.args.plan.now.order.items c.requires,
      c.scenes.ensures.limits.scene_count.1,
      ap length c.deref-2.ensures.value,
    )

pub returns : goal.returns
returns c =
    let page = c.args.page.now.items in
    let film = film_of c.args.inst.now in
    let cost = c.as_bytes.ensures.value ∙ c.in_ok-cost.ensures.ok ∙ ap decimal (c.pay_of.ensures ∙ ap (pay_of film) c.deref.ensures.value) in
    let scenes = c.as_bytes-2.ensures.value ∙ c.in_ok-scenes.ensures.ok ∙ ap decimal c.scenes.ensures.count in
    let days = c.as_bytes-3.ensures.value ∙ c.in_ok-days.ensures.ok ∙ ap decimal (c.days_of.ensures.days ∙ ap (days_of film) c.deref-2.ensures.value) in
    let actors = c.as_bytes-4.ensures.value ∙ c.in_ok-actors.ensures.ok ∙ ap decimal c.actors.ensures.count in
    let bound = c.as_bytes-5.ensures.value ∙ c.in_ok-bound.ensures.ok in
    on_ok_weaker c.push_all.result
    (λ written. written
    ∙ sentence_made page c.as_bytes.result.now c.as_bytes-2.result.now c.as_bytes-3.result.now c.as_bytes-4.result.now c.as_bytes-5.result.now c.status_word.result.now
    ∙ (λ i. page ++ sentence (cost i) (scenes i) (days i) (actors i) (bound i) (c.status_word.ensures i)))
    c.push_all.ensures
