use Rattle.strip_model.proofs.Counts.{length-order, orders_permuted, order_permuted}
use Rattle.strip_model.proofs.laws.orders_are_permutations.Goals as goal

pub returns : goal.returns
returns c = record { length = length-order; permuted = orders_permuted; stays = order_permuted }
