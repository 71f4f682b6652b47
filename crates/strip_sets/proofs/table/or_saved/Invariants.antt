use Rattle.std.proofs.Common.{◌≡◌, ◌+◌, ◌*◌, ◌-◌, ◌^◌, Bor, List, ℕ, length, max}
use Rattle.strip_sets.specs.Numbers.{by_class, in_block}
use Rattle.strip_sets.specs.Saving.{owes_from}
use Rattle.strip_sets.proofs.Blocks.{IsTurned}
use Rattle.strip_sets.proofs.table.or_saved.Given as goal

abbrev pub invariant-loop-block : goal.invariant-loop-block
invariant-loop-block g l =
    (length l.table ≡ length l.initial.table)
    × IsTurned (2 ^ g.B.BySet.places) l.block (in_block g.B.BySet.value l.initial.table)
    (λ (block set : ℕ). max (in_block g.B.BySet.value l.initial.table block set) (in_block g.B.BySet.value l.others block set
    + l.hold * in_block g.B.BySet.value l.days_before block set
    - owes_from g.C.Count.COUNT (by_class {R = Bor (List g.row.B.Denot)} (λ s. in_block g.B.BySet.value s.now block) l.extras)
    (by_class {R = Bor (List g.row.B.Denot)} (λ s. in_block g.B.BySet.value s.now block) l.owed)
    (by_class {R = Bor (List g.row.B.Denot)} (λ s. in_block g.B.BySet.value s.now block) l.owed_before) set))
    (in_block g.B.BySet.value l.table)
