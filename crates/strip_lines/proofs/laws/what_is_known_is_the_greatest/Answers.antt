use Rattle.strip_lines.proofs.Grown.{known-static, known-line, known-least}
use Rattle.strip_lines.proofs.laws.what_is_known_is_the_greatest.Goals as goal

pub returns-clause-bound : goal.returns-clause-bound
returns-clause-bound c = known-static

pub returns-clause-line : goal.returns-clause-line
returns-clause-line c = known-line

pub returns-clause-least : goal.returns-clause-least
returns-clause-least c = known-least
