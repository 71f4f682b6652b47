use Rattle.std.proofs.Common.{◌*◌, ◌≤◌, ap, arith, slice_index}
use Rattle.std.proofs.Math.Nat.{mul-le-mul}
use Rattle.strip_mask.specs.Set.{with}
use Rattle.strip_group.proofs.Alone.{alone_more, alone_most, halves_top}
use Rattle.strip_sets.proofs.Sets.{one_small, in_out}
use Rattle.strip_group.proofs.by_set.HalvesBySet.paid_alone.Goals as goal

pub paid_alone-requires-clause-days : goal.paid_alone-requires-clause-days
paid_alone-requires-clause-days g c = in_out g.T.BySet.places (g.T.BySet.value c.args.self.now.without) (g.T.BySet.value c.args.self.now.with) (λ x. x ≤ 19800) c.requires.days

pub overflow_mul-result : goal.overflow_mul-result
overflow_mul-result g c =
    let few : c.first.result ≤ 19800 = omega (
      arith,
      c.first.ensures,
      halves_top g.T.BySet.places (g.T.BySet.value c.args.self.now.without) (g.T.BySet.value c.args.self.now.with),
      c.requires.days (with 0 g.T.BySet.places) (one_small _ g.T.BySet.places (omega arith)),
    ) in
    let pay : slice_index c.args.rates.now c.places.result * c.first.result ≤ 64000000000 * 19800 = mul-le-mul (c.requires.rates c.places.result) few in
    record { fits = omega (arith, pay) }

pub overflow_add-result : goal.overflow_add-result
overflow_add-result g c =
    let few : c.first.result ≤ 19800 = omega (
      arith,
      c.first.ensures,
      halves_top g.T.BySet.places (g.T.BySet.value c.args.self.now.without) (g.T.BySet.value c.args.self.now.with),
      c.requires.days (with 0 g.T.BySet.places) (one_small _ g.T.BySet.places (omega arith)),
    ) in
    let pay : slice_index c.args.rates.now c.places.result * c.first.result ≤ 64000000000 * 19800 = mul-le-mul (c.requires.rates c.places.result) few in
    let low = alone_most g.T.BySet.places 64000000000 19800 c.args.rates.now (g.T.BySet.value c.args.self.now.without) c.requires.rates
    (in_out g.T.BySet.places (g.T.BySet.value c.args.self.now.without) (g.T.BySet.value c.args.self.now.with) (λ x. x ≤ 19800) c.requires.days) in
    record { fits = omega (arith, pay, low, c.paid_alone.ensures, c.requires.few) }

pub returns : goal.returns
returns g c = alone_more g.T.BySet.places (g.T.BySet.value c.args.self.now.without) (g.T.BySet.value c.args.self.now.with) c.args.rates.now
    (slice_index c.args.rates.now c.places.result) c.paid_alone.result c.first.result c.paid_alone.ensures c.first.ensures (ap (slice_index c.args.rates.now) c.places.ensures)
