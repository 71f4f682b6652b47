use Rattle.strip_film.proofs.Costs.{step_monotone}
use Rattle.strip_film.proofs.laws.fewer_on_location_cost_no_more.Goals as goal

pub returns : goal.returns
returns c = step_monotone
