use Rattle.std.proofs.Common.{◌≡◌, ℕ, ◌-◌, ◌∷◌, drop, take, refl, sym, ap, ◌∙◌, arith}
use Rattle.strip_mask.specs.Set.{has, members}
use Rattle.strip_mask.proofs.ByMembers.{has_from_without}
use Rattle.strip_mask.proofs.Sizes.{size-empty}
use Rattle.strip_bound.specs.Bounds.{set_of}
use Rattle.strip_bound.proofs.Turns.{taken_more, dropped_more, taken_all, dropped_all, size_with_most}
use Rattle.strip_bound.proofs.bounds.first_six.Goals as goal

pub loop-turn-init : goal.loop-turn-init
loop-turn-init c = record { group = refl; rest = refl; few = omega (arith, size-empty); within = λ number there. there }

pub returns-then-is_empty-clause-group : goal.returns-then-is_empty-clause-group
returns-then-is_empty-clause-group c =
    taken_all (6 - c.loop-turn._turn) c.loop-turn.group.0 c.loop-turn.left.0 (set_of (take 6 (members c.args.set.0)))
    (c.is_empty.ensures.0 c.if-is_empty.true) c.loop-turn.invariant.group

pub returns-then-is_empty-clause-rest : goal.returns-then-is_empty-clause-rest
returns-then-is_empty-clause-rest c =
    dropped_all (6 - c.loop-turn._turn) c.loop-turn.left.0 (drop 6 (members c.args.set.0)) (c.is_empty.ensures.0 c.if-is_empty.true) c.loop-turn.invariant.rest

pub loop-turn-preserved : goal.loop-turn-preserved
loop-turn-preserved c =
    let left : ℕ = c.loop-turn.left.0 in
    let number : ℕ = c.least-number.result in
    let begins : members left ≡ number ∷ members c.without-left.result.0
    = c.least-number.ensures.begins ∙ ap (λ (set : ℕ). number ∷ members set) (sym c.without-left.ensures) in
    record {
      group = rw c.with-group.ensures (taken_more c.loop-turn._turn c.loop-turn.group.0 number (members left) (members c.without-left.result.0)
          (set_of (take 6 (members c.args.set.0))) c.loop-turn-test.true begins c.loop-turn.invariant.group);
      rest = dropped_more c.loop-turn._turn number (members left) (members c.without-left.result.0) (drop 6 (members c.args.set.0))
          c.loop-turn-test.true begins c.loop-turn.invariant.rest;
      few = rw c.with-group.ensures (omega (arith, size_with_most c.loop-turn.group.0 number c.least-number.ensures.below, c.loop-turn.invariant.few));
      within = λ i there. c.loop-turn.invariant.within i
          (has_from_without left number i (sym (ap (λ (set : ℕ). has set i) c.without-left.ensures) ∙ there)).1;
    }
