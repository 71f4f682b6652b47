use Rattle.std.proofs.Common.{◌≡◌, ◌+◌, ◌*◌, ◌<◌, ◌∙◌, ℕ, List, ap, arith, drop, length, slice_index}
use Rattle.strip_mask.proofs.Totals.{part}
use Rattle.strip_group.proofs.Blocks.{block_more, block_none, blocks_all, entry_is}
use Rattle.strip_mask.specs.Set.{sum_over}
use Rattle.strip_mask.specs.Sums.{sum_below}
use Rattle.strip_group.specs.Days.{block_of}
use Rattle.strip_group.proofs.days.DaySums.sum.Goals as goal

pub loop-number-init : goal.loop-number-init
loop-number-init c = record { so_far = block_none c.self.inside.days.items c.args.set.0; small = omega arith }

pub overflow_add-sum : goal.overflow_add-sum
overflow_add-sum c =
    let number : c.loop-number.number < 6 = omega (arith, c.loop-number-test.true, c.len-number-end.ensures, c.self.invariant.0.few) in
    record { fits = omega (arith, c.loop-number.invariant.small, number, c.index.type_inv) }

pub loop-number-preserved : goal.loop-number-preserved
loop-number-preserved c =
    let lt : c.loop-number.number < length c.self.inside.tables.items = omega (arith, c.loop-number-test.true, c.len-number-end.ensures) in
    let entry : slice_index c.index.result.now c.block.result.0 ≡ sum_over (drop (12 * c.loop-number.number) c.self.inside.days.items) (block_of c.args.set.0 c.loop-number.number)
    = entry_is c.self.inside.days.items c.self.inside.tables.items c.self.invariant.0 c.index.result.now c.loop-number.number c.args.set.0 c.block.result.0 lt c.index.ensures c.block.ensures.is in
    record {
      so_far = ap (λ (x : ℕ). c.loop-number.sum + x) entry ∙ block_more c.self.inside.days.items c.args.set.0 c.loop-number.number c.loop-number.sum c.loop-number.invariant.so_far;
      small = omega (arith, c.loop-number.invariant.small);
    }

pub returns : goal.returns
returns c =
    let end : c.loop-number.number ≡ length c.self.inside.tables.items = omega (arith, c.loop-number-test.false, c.loop-number.auto.number-end, c.len-number-end.ensures) in
    c.loop-number.invariant.so_far ∙ ap (λ (n : ℕ). sum_below (12 * n) (part c.self.inside.days.items c.args.set.0)) end
    ∙ blocks_all c.self.inside.days.items c.args.set.0 (length c.self.inside.tables.items) c.self.invariant.0.short c.self.invariant.0.whole
    ∙ ap (λ (v : List ℕ). sum_over v c.args.set.0) c.self.view_is
