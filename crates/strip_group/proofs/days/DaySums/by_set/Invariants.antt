use Rattle.std.proofs.Common.{◌≡◌, ℕ, ◌*◌, ◌^◌, ◌<◌, ◌≤◌}
use Rattle.strip_mask.specs.Sums.{sum_below}
use Rattle.strip_group.specs.Saved.{left_by}
use Rattle.strip_mask.proofs.Totals.{part}
use Rattle.strip_group.proofs.days.DaySums.by_set.Given as goal

-- the days of each set in the tables so far
abbrev pub invariant-loop-number : goal.invariant-loop-number
invariant-loop-number g l = record {
  so_far : (set : ℕ) → set < 2 ^ g.T.BySet.places
      → g.T.BySet.value l.days set ≡ sum_below (12 * l.number) (part l.self-inside.days.items (left_by l.stays g.T.BySet.places set l.scenes.0));
  small : (set : ℕ) → set < 2 ^ g.T.BySet.places → g.T.BySet.value l.days set ≤ 65535 * l.number;
}
