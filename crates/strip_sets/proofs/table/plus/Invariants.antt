use Rattle.std.proofs.Common.{◌≡◌, ◌+◌, ◌^◌, ℕ, length}
use Rattle.strip_sets.specs.Numbers.{in_block}
use Rattle.strip_sets.proofs.Blocks.{IsTurned}
use Rattle.strip_sets.proofs.table.plus.Given as goal

abbrev pub invariant-loop-block : goal.invariant-loop-block
invariant-loop-block g l =
    (length l.table ≡ length l.initial.table)
    × IsTurned (2 ^ g.B.BySet.places) l.block (in_block g.B.BySet.value l.initial.table)
    (λ (block set : ℕ). in_block g.B.BySet.value l.initial.table block set + in_block g.B.BySet.value l.others block set)
    (in_block g.B.BySet.value l.table)
