use Rattle.std.proofs.Common.{◌≡◌, ◌+◌, ◌∙◌, ℕ, ap, arith, length, slice_index, sym}
use Rattle.strip_mask.specs.Sums.{sum_below}
use Rattle.strip_mask.proofs.Sums.{sum_below-more, sum_below-slice, sum_below-zero}
use Rattle.strip_group.proofs.Blocks.{begun_sum}
use Rattle.strip_group.proofs.days.sum_of.Goals as goal

pub loop-scene-init : goal.loop-scene-init
loop-scene-init c = record { so_far = sym (sum_below-zero (slice_index c.args.days.now)) }

pub overflow_add-sum : goal.overflow_add-sum
overflow_add-sum c = record {
  fits = omega (
    arith,
    c.loop-scene.invariant.so_far,
    sum_below-more c.loop-scene.scene (slice_index c.args.days.now),
    begun_sum c.args.days.now (c.loop-scene.scene + 1),
    c.requires,
  );
}

pub loop-scene-preserved : goal.loop-scene-preserved
loop-scene-preserved c = record { so_far = omega (arith, c.loop-scene.invariant.so_far, sum_below-more c.loop-scene.scene (slice_index c.args.days.now)) }

pub returns : goal.returns
returns c =
    let end : c.loop-scene.scene ≡ length c.args.days.now = omega (arith, c.loop-scene-test.false, c.loop-scene.auto) in
    c.loop-scene.invariant.so_far ∙ ap (λ (n : ℕ). sum_below n (slice_index c.args.days.now)) end ∙ sum_below-slice c.args.days.now
