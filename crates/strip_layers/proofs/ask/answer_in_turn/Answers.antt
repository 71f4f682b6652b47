use Rattle.std.proofs.Common.{◌≡◌, ◌+◌, ◌<◌, ◌≤◌, ℕ, length, slice_index_or, slice_set, inl, inr, sym, ap, ◌∙◌, subst, arith}
use Rattle.std.proofs.lemmas.Bool.{cases_lt}
use Rattle.std.proofs.lemmas.List.{get_or-set_other, get_or-set_same, get_or_default, length-set}
use Rattle.strip_layers.specs.declared.ask.Ask.{Ask}
use Rattle.strip_layers.specs.Asks.{IsAnswer}
use Rattle.strip_layers.proofs.ask.answer_in_turn.Goals as goal

pub loop-ask-preserved : goal.loop-ask-preserved
loop-ask-preserved g c =
    let before = c.loop-ask.asks in
    let at : ℕ = c.loop-ask.ask-index in
    let answer : Ask = c.answer_one.new.ask in
    let inside : at < length before = omega (arith, c.loop-ask-test.true, c.loop-ask.auto.ask-index-end, c.loop-ask.invariant.count) in
    record {
      count = length-set before at answer ∙ c.loop-ask.invariant.count;
      done = λ place d less. elim (cases_lt place at) [
        | inl earlier ↦ subst (IsAnswer g.B.Bounds.kind g.B.Bounds.film (slice_index_or c.args.asks.now place d))
            (sym (get_or-set_other before at place answer d (λ same. omega (arith, same, earlier)))) (c.loop-ask.invariant.done place d earlier)
        | inr from ↦ (
            let same : place ≡ at = omega (arith, from, less) in
            let first = get_or_default before at _ d inside ∙ c.loop-ask.invariant.rest at d (omega arith) in
            subst (λ (p : ℕ). IsAnswer g.B.Bounds.kind g.B.Bounds.film (slice_index_or c.args.asks.now p d) (slice_index_or (slice_set before at answer) p d)) (sym same)
            (subst (IsAnswer g.B.Bounds.kind g.B.Bounds.film (slice_index_or c.args.asks.now at d)) (sym (get_or-set_same before at answer d inside))
            (subst (λ (a : Ask). IsAnswer g.B.Bounds.kind g.B.Bounds.film a answer) first c.answer_one.ensures)))
      ];
      rest = λ place d past. get_or-set_other before at place answer d (λ same. omega (arith, same, past)) ∙ c.loop-ask.invariant.rest place d (omega (arith, past));
    }
