use Rattle.std.proofs.Common.{◌≡◌, ◌+◌, ◌∙◌, length, ap}
use Rattle.strip_model.specs.declared.kind.Kind.TheVariants.{Pairs}
use Rattle.strip_film.specs.Film.{all_scenes}
use Rattle.strip_model.specs.FilmOf.{film_of}
use Rattle.strip_bound.specs.Bounds.{bound}
use Rattle.strip_model.specs.Pay.{pay_of}
use Rattle.strip_reduce.specs.State.{State}
use Rattle.strip_solve.specs.Own.{own_order}
use Rattle.strip_solve.specs.Priced.{priced_status, whole_bound}
use Rattle.strip_solve.proofs.Rows.{rows_of, rows_order}
use Rattle.strip_solve.proofs.pricing.price_classes.Goals as goal

pub pay-cost-requires : goal.pay-cost-requires
pay-cost-requires c =
    let rows = rows_of c.args.inst.now (length c.scenes.result.now) c.in_ok-order.order.items c.scenes.ensures.count c.in_ok-order.ensures in
    rows_order c.args.inst.now c.deref.result.now (c.deref.ensures.value ∙ rows)

pub returns : goal.returns
returns c =
    let film = film_of c.args.inst.now in
    let rows : c.in_ok-order.order.items ≡ own_order film
    = rows_of c.args.inst.now (length c.scenes.result.now) c.in_ok-order.order.items c.scenes.ensures.count c.in_ok-order.ensures in
    let cost : c.pay-cost.result ≡ pay_of film (own_order film) = c.pay-cost.ensures ∙ ap (pay_of film) (c.deref.ensures.value ∙ rows) in
    let least : c.in_ok-bound.bound ≡ whole_bound film
    = c.in_ok-bound.ensures ∙ ap (λ (s : State). bound Pairs s.film (all_scenes s.film) + s.apart) c.requires in
    λ i. record {
      status = (c.status_by.ensures ∙ (λ j. priced_status (least j) (cost j))) i;
      kind = Pairs;
      cost = cost i;
      bound = least i;
      held = 0;
      order = rows i;
      lines = c.new.ensures.items i;
    }
