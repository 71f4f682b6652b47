use Rattle.std.proofs.Common.{◌≡◌, ◌∙◌, ℕ, ap, arith, length, slice_index, sym}
use Rattle.strip_mask.specs.Sums.{sum_below}
use Rattle.strip_mask.proofs.Sums.{sum_below-more, sum_below-slice, sum_below-zero}
use Rattle.strip_group.proofs.table.total.Goals as goal

pub loop-place-init : goal.loop-place-init
loop-place-init c = record { so_far = sym (sum_below-zero (slice_index c.args.rates.now)); small = omega arith }

pub overflow_add-sum : goal.overflow_add-sum
overflow_add-sum c = record { fits = omega (arith, c.loop-place.invariant.small, c.loop-place-test.true, c.requires c.loop-place.place) }

pub loop-place-preserved : goal.loop-place-preserved
loop-place-preserved c = record {
  so_far = omega (arith, c.loop-place.invariant.so_far, sum_below-more c.loop-place.place (slice_index c.args.rates.now));
  small = omega (arith, c.loop-place.invariant.small, c.requires c.loop-place.place);
}

pub returns-clause-same : goal.returns-clause-same
returns-clause-same c =
    let end : c.loop-place.place ≡ length c.args.rates.now = omega (arith, c.loop-place-test.false, c.loop-place.auto, c.told-rates) in
    c.loop-place.invariant.so_far ∙ ap (λ (n : ℕ). sum_below n (slice_index c.args.rates.now)) end ∙ sum_below-slice c.args.rates.now
