use Rattle.std.proofs.Common.{ℕ, sym, subst}
use Rattle.strip_model.specs.Order.{IsOrder}
use Rattle.strip_model.proofs.pricing.is_order.Goals as goal

pub returns-then-lie_below : goal.returns-then-lie_below
returns-then-lie_below c = (
  λ yes. subst (λ (n : ℕ). IsOrder n c.args.order.now) c.scenes-count.ensures.count
      (record { known = c.lie_below.ensures.0 c.if-lie_below.true; once = c.have_each_once.ensures.0 yes }),
  λ is. c.have_each_once.ensures.1 (subst (λ (n : ℕ). IsOrder n c.args.order.now) (sym c.scenes-count.ensures.count) is).once,
)
