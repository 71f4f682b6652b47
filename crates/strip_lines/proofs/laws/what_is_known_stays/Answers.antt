use Rattle.strip_lines.proofs.Grown.{known-grows, justified-grows}
use Rattle.strip_lines.proofs.laws.what_is_known_stays.Goals as goal

pub returns-clause-known : goal.returns-clause-known
returns-clause-known c = known-grows

pub returns-clause-justified : goal.returns-clause-justified
returns-clause-justified c = justified-grows
