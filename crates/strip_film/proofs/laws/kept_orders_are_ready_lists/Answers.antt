use Rattle.strip_film.proofs.Orders.{kept_from_ready, ready_from_order}
use Rattle.strip_film.proofs.laws.kept_orders_are_ready_lists.Goals as goal

pub returns : goal.returns
returns c = λ film order is. (kept_from_ready film is order, ready_from_order film is order)
