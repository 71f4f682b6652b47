use Rattle.strip_instance.proofs.Ways.{shortest_once}
use Rattle.strip_instance.proofs.laws.the_shortest_way_is_one.Goals as goal

pub returns : goal.returns
returns c = shortest_once
