use Rattle.std.proofs.Common.{◌≡◌, ◌+◌, ◌*◌, ◌-◌, ◌^◌, ℕ, length, max}
use Rattle.strip_sets.specs.Numbers.{in_block}
use Rattle.strip_sets.proofs.Blocks.{IsTurned}
use Rattle.strip_sets.proofs.table.greater_with.Given as goal

abbrev pub invariant-loop-block : goal.invariant-loop-block
invariant-loop-block g l =
    (length l.table ≡ length l.initial.table)
    × IsTurned (2 ^ g.B.BySet.places) l.block (in_block g.B.BySet.value l.initial.table) (λ (b s : ℕ). max (in_block g.B.BySet.value l.initial.table b s) (in_block g.B.BySet.value l.others b s + l.rate * in_block g.B.BySet.value l.paid b s - in_block g.B.BySet.value l.extras b s * in_block g.B.BySet.value l.owed b s)) (in_block g.B.BySet.value l.table)
