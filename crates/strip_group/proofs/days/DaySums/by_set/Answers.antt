use Rattle.std.proofs.Common.{◌≡◌, ◌+◌, ◌*◌, ◌<◌, ◌≤◌, ◌∙◌, ℕ, List, ap, arith, drop, length, slice_index}
use Rattle.strip_mask.specs.Set.{sum_over}
use Rattle.strip_mask.specs.Sums.{sum_below}
use Rattle.strip_group.specs.Days.{block_of}
use Rattle.strip_group.specs.Saved.{left_by}
use Rattle.strip_mask.proofs.Totals.{part}
use Rattle.strip_group.proofs.Blocks.{block_left, block_more, block_none, blocks_all, drop_sum, entry_is}
use Rattle.strip_group.proofs.days.DaySums.by_set.Goals as goal

pub loop-number-init : goal.loop-number-init
loop-number-init g c = record {
  so_far = λ set lt. c.none-days.ensures set lt ∙ block_none c.self.inside.days.items (left_by c.args.stays.now g.T.BySet.places set c.args.scenes.0);
  small = λ set lt. (let none = c.none-days.ensures set lt in omega (arith, none));
}

pub with_days-days-requires-clause-fits : goal.with_days-days-requires-clause-fits
with_days-days-requires-clause-fits g c = λ set lt. (
    let most = c.loop-number.invariant.small set lt in
    omega (arith, most, c.loop-number-test.true, c.len-number-end.ensures, c.self.invariant.0.few, c.requires.wide))

pub loop-number-preserved : goal.loop-number-preserved
loop-number-preserved g c =
    let number : c.loop-number.number < length c.self.inside.tables.items = omega (arith, c.loop-number-test.true, c.len-number-end.ensures) in
    let entry : (set : ℕ) → slice_index c.index.result.now (left_by c.blocks_of.result g.T.BySet.places set c.block.result.0)
    ≡ sum_over (drop (12 * c.loop-number.number) c.self.inside.days.items) (block_of (left_by c.args.stays.now g.T.BySet.places set c.args.scenes.0) c.loop-number.number)
    = λ set. entry_is c.self.inside.days.items c.self.inside.tables.items c.self.invariant.0 c.index.result.now c.loop-number.number
    (left_by c.args.stays.now g.T.BySet.places set c.args.scenes.0)
    (left_by c.blocks_of.result g.T.BySet.places set c.block.result.0) number c.index.ensures
    (ap (left_by c.blocks_of.result g.T.BySet.places set) c.block.ensures.is
    ∙ block_left c.args.stays.now c.blocks_of.result c.loop-number.number g.T.BySet.places set c.args.scenes.0 (λ place lt. c.blocks_of.ensures place (omega
    (arith, lt, c.requires.few)))) in
    record {
      so_far = λ set lt. c.with_days-days.ensures set lt ∙ ap (λ (x : ℕ). g.T.BySet.value c.loop-number.days set + x) (entry set)
          ∙ block_more c.self.inside.days.items (left_by c.args.stays.now g.T.BySet.places set c.args.scenes.0) c.loop-number.number (g.T.BySet.value c.loop-number.days set)
          (c.loop-number.invariant.so_far set lt);
      small = λ set lt. (
          let before = c.loop-number.invariant.small set lt in
          let more = c.with_days-days.ensures set lt in
          let most : sum_over (drop (12 * c.loop-number.number) c.self.inside.days.items) (block_of
          (left_by c.args.stays.now g.T.BySet.places set c.args.scenes.0) c.loop-number.number) ≤ 19800
          = drop_sum c.self.inside.days.items (12 * c.loop-number.number) (block_of
          (left_by c.args.stays.now g.T.BySet.places set c.args.scenes.0) c.loop-number.number) 19800 c.self.invariant.0.short c.self.invariant.0.day_sum in
          omega (arith, before, more, entry set, most));
    }

pub returns : goal.returns
returns g c = λ set lt. (
    let end : c.loop-number.number ≡ length c.self.inside.tables.items = omega (arith, c.loop-number-test.false, c.loop-number.auto.number-end, c.len-number-end.ensures) in
    c.loop-number.invariant.so_far set lt ∙ ap (λ (n : ℕ). sum_below (12 * n) (part c.self.inside.days.items (left_by c.args.stays.now g.T.BySet.places set c.args.scenes.0))) end
    ∙ blocks_all c.self.inside.days.items (left_by c.args.stays.now g.T.BySet.places set c.args.scenes.0)
    (length c.self.inside.tables.items) c.self.invariant.0.short c.self.invariant.0.whole
    ∙ ap (λ (v : List ℕ). sum_over v (left_by c.args.stays.now g.T.BySet.places set c.args.scenes.0)) c.self.view_is)
