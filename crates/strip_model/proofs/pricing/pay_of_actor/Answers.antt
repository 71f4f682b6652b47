use Rattle.std.proofs.Common.{◌<◌, ◌≤◌, length, All, subst, sym, ap, arith}
use Rattle.strip_model.specs.Pay.{works}
use Rattle.strip_model.specs.FilmOf.{film_of}
use Rattle.strip_model.proofs.Spans.{All-from_first, length-from_first}
use Rattle.strip_model.proofs.pricing.pay_of_actor.Goals as goal
use Rattle.strip_model.proofs.pricing.pay_of_actor.Goals.{After-from_first_scene}

short : (c : After-from_first_scene) → length c.from_first_scene.result.now ≤ 200
short c = omega (arith, ap length c.from_first_scene.ensures, length-from_first (works (film_of c.args.inst.now) c.args.actor) c.args.order.now, c.requires.short)

pub pay_to_last-requires-clause-order : goal.pay_to_last-requires-clause-order
pay_to_last-requires-clause-order c =
    subst (All (λ scene. scene < length c.args.inst.now.scenes)) (sym c.from_first_scene.ensures)
    (All-from_first (works (film_of c.args.inst.now) c.args.actor) (λ scene. scene < length c.args.inst.now.scenes) c.args.order.now c.requires.order)

pub pay_to_last-requires-clause-short : goal.pay_to_last-requires-clause-short
pay_to_last-requires-clause-short c = short c

pub returns-clause-small : goal.returns-clause-small
returns-clause-small c = omega (arith, short (goal.at.returns-clause-small c).After-from_first_scene)
