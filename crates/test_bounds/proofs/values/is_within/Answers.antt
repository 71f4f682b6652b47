use Rattle.std.proofs.Common.{◌≡◌, ◌∙◌, ℕ, ap, arith, length, slice_index}
use Rattle.strip_mask.specs.Sums.{sum_below}
use Rattle.strip_mask.proofs.Sums.{sum_below-more, sum_below-slice, sum_below-zero}
use Rattle.test_bounds.proofs.values.is_within.Goals as goal

pub loop-place-init : goal.loop-place-init
loop-place-init c = record { left = omega (arith, sum_below-zero (slice_index c.args.numbers.now)) }

pub loop-place-preserved : goal.loop-place-preserved
loop-place-preserved c = record { left = omega (arith, c.loop-place.invariant.left, sum_below-more c.loop-place.place (slice_index c.args.numbers.now)) }

pub returns : goal.returns
returns c = λ _.
    let end : c.loop-place.place ≡ length c.args.numbers.now = omega (arith, c.loop-place-test.false, c.loop-place.auto) in
    omega (arith, c.loop-place.invariant.left, ap (λ (n : ℕ). sum_below n (slice_index c.args.numbers.now)) end ∙ sum_below-slice c.args.numbers.now)
