use Rattle.std.proofs.Common.{◌≡◌, ◌+◌, ◌^◌, ℕ, length, min}
use Rattle.strip_sets.specs.Numbers.{in_block}
use Rattle.strip_sets.proofs.Blocks.{IsTurned}
use Rattle.strip_sets.proofs.table.more_at_most.Given as goal

abbrev pub invariant-loop-block : goal.invariant-loop-block
invariant-loop-block g l =
    (length l.table ≡ length l.initial.table)
    × IsTurned (2 ^ g.B.BySet.places) l.block (in_block g.B.BySet.value l.initial.table) (λ (b s : ℕ). min (in_block g.B.BySet.value l.others b s + l.more) (in_block g.B.BySet.value l.limits b s)) (in_block g.B.BySet.value l.table)
