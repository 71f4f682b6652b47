use Rattle.strip_world.proofs.Steps.{least_falls, lines_grow, search_stays}
use Rattle.strip_world.proofs.laws.what_was_seen_stays_true.Goals as goal

pub returns-clause-least : goal.returns-clause-least
returns-clause-least c = least_falls

pub returns-clause-lines : goal.returns-clause-lines
returns-clause-lines c = lines_grow

pub returns-clause-search : goal.returns-clause-search
returns-clause-search c = search_stays
