use Rattle.std.proofs.Common.{◌≡◌, ℕ, ◌+◌, ◌^◌, ◌++◌, length, sum_by}
use Rattle.strip_mask.specs.Set.{members}
use Rattle.strip_mask.specs.Iter.{rest_of}
use Rattle.strip_sets.specs.Numbers.{number, sum_within}
use Rattle.strip_arrivals.proofs.Counted.{part_of}
use Rattle.strip_arrivals.proofs.table.ArrivalsTable.counted.Given as goal

-- the numbers of the scenes so far, in the sum of each set in which their casts lie
abbrev pub invariant-loop-scene : goal.invariant-loop-scene
invariant-loop-scene g l = record {
  sized : length l.table ≡ 2 ^ l.higher;
  so_far : (places : ℕ) → sum_within (l.higher + g.B.BySet.places) (number g.B.BySet.value g.B.BySet.places l.table) places
      ≡ sum_by (part_of l.crew.casts l.numbers places) l.yielded;
  turns : l.yielded ++ rest_of l.scene-iterator ≡ members l.fn.scenes.0;
}
