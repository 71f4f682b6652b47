use Rattle.std.proofs.Common.{Bor, ℕ, slice_index}
use Rattle.strip_sets.specs.Numbers.{by_class}
use Rattle.strip_sets.specs.Saving.{owes}
use Rattle.strip_sets.proofs.Saving.{saves_none}
use Rattle.strip_sets.proofs.by_set.U64BySet.pass.Goals as goal

pub returns : goal.returns
returns g c = saves_none (slice_index c.args._holds.now) (λ (set : ℕ). c.args._days.now) (owes g.C.Count.COUNT (by_class {R = Bor ℕ} (λ s _. s.now) c.args._extras) (by_class {R = Bor ℕ} (λ s _. s.now) c.args._owed))
    (λ (set : ℕ). c.args.self.now)
