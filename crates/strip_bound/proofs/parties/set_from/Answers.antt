use Rattle.std.proofs.Common.{◌≡◌, ℕ, suc, ◌+◌, ◌-◌, ◌<◌, ◌⊎◌, ◌≤◌, drop, fold, length, take, inl, inr, sym, ◌∙◌, arith}
use Rattle.std.proofs.Math.Nat.{min-le_left, min-le_right}
use Rattle.std.proofs.lemmas.Bool.{cases_lt}
use Rattle.strip_mask.specs.Set.{with}
use Rattle.strip_bound.proofs.Steps.{piece_more, piece_end}
use Rattle.strip_bound.proofs.parties.set_from.Goals as goal

pub loop-place-preserved : goal.loop-place-preserved
loop-place-preserved c =
    let place : ℕ = c.loop-place.place in
    let end : ℕ = c.args.from + c.args.count in
    let actors = c.args.actors.now in
    let less : place < end = omega (arith, c.loop-place-test.true, c.min-place-end.ensures, min-le_left end (length actors)) in
    let within : place < length actors = omega (arith, c.loop-place-test.true, c.min-place-end.ensures, min-le_right end (length actors)) in
    let next : place + 1 ≡ suc place = omega arith in
    record {
      from = omega (arith, c.loop-place.invariant.from);
      whole = (λ i. fold with (c.with-set.ensures i) (take (end - next i) (drop (next i) actors)))
          ∙ piece_more place end actors c.loop-place.set.0 less within ∙ c.loop-place.invariant.whole;
    }

pub returns : goal.returns
returns c =
    let place : ℕ = c.loop-place.place in
    let end : ℕ = c.args.from + c.args.count in
    let actors = c.args.actors.now in
    let done : (end ≤ place) ⊎ (length actors ≤ place) = elim (cases_lt end (length actors)) [
      | inl less ↦ inl (omega (arith, c.loop-place-test.false, c.min-place-end.ensures, less))
      | inr more ↦ inr (omega (arith, c.loop-place-test.false, c.min-place-end.ensures, more))
    ] in
    sym (piece_end place end actors c.loop-place.set.0 done) ∙ c.loop-place.invariant.whole
