use Rattle.std.proofs.Common.{length}
use Rattle.strip_film.proofs.StepSum.{steps_are_pay}
use Rattle.strip_film.proofs.Orders.{AllOnce-from_order}
use Rattle.strip_film.proofs.laws.steps_add_up_to_the_pay.Goals as goal

pub returns : goal.returns
returns c = λ film order is is_order.
    steps_are_pay film is order (AllOnce-from_order (length film.casts) order is.scene_count.1 is_order)
