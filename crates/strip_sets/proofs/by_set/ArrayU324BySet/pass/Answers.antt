use Rattle.std.proofs.Common.{Bor, ℕ, List, slice_index, subst, sym}
use Rattle.strip_sets.specs.Numbers.{by_class}
use Rattle.strip_sets.specs.Saving.{Saves, SavingRoom, owes}
use Rattle.strip_sets.proofs.TwoPlaces.{room_same, saves_same}
use Rattle.strip_sets.proofs.by_set.ArrayU324BySet.pass.Goals as goal

pub pass_two-numbers-requires-clause-room : goal.pass_two-numbers-requires-clause-room
pass_two-numbers-requires-clause-room g c =
    subst (λ (xs : List ℕ). SavingRoom 2 g.C.Count.COUNT 4294967295 c.args.holds.now (slice_index xs) (by_class slice_index c.lanes-extras.result) (by_class slice_index c.lanes-owed.result)
    (slice_index c.vector.result)) (sym c.vector-2.ensures.same)
    (subst (λ (xs : List ℕ). SavingRoom 2 g.C.Count.COUNT 4294967295 c.args.holds.now (slice_index c.args.days.now) (by_class slice_index c.lanes-extras.result) (by_class slice_index c.lanes-owed.result)
    (slice_index xs)) (sym c.vector.ensures.same)
    (room_same 2 g.C.Count.COUNT c.args.holds.now (slice_index c.args.days.now) (by_class {R = Bor (List ℕ)} (λ s. slice_index s.now) c.args.extras) (by_class {R = Bor (List ℕ)} (λ s. slice_index s.now) c.args.owed)
    (by_class slice_index c.lanes-extras.result) (by_class slice_index c.lanes-owed.result) c.lanes-extras.ensures.same c.lanes-owed.ensures.same 4294967295 (slice_index c.args.self.now) c.requires.room))

pub returns : goal.returns
returns g c =
    saves_same 2 g.C.Count.COUNT c.args.holds.now (slice_index c.args.days.now) (by_class {R = Bor (List ℕ)} (λ s. slice_index s.now) c.args.extras) (by_class {R = Bor (List ℕ)} (λ s. slice_index s.now) c.args.owed)
    (by_class slice_index c.lanes-extras.result) (by_class slice_index c.lanes-owed.result) c.lanes-extras.ensures.same c.lanes-owed.ensures.same (slice_index c.args.self.now) (slice_index c.pass_two-numbers.result)
    (subst (λ (xs : List ℕ). Saves 2 (slice_index c.args.holds.now) (slice_index xs) (owes g.C.Count.COUNT (by_class slice_index c.lanes-extras.result) (by_class slice_index c.lanes-owed.result))
    (slice_index c.args.self.now) (slice_index c.pass_two-numbers.result)) c.vector-2.ensures.same
    (subst (λ (xs : List ℕ). Saves 2 (slice_index c.args.holds.now) (slice_index c.vector-2.result) (owes g.C.Count.COUNT (by_class slice_index c.lanes-extras.result) (by_class slice_index c.lanes-owed.result))
    (slice_index xs) (slice_index c.pass_two-numbers.result)) c.vector.ensures.same c.pass_two-numbers.ensures.saves))
