use Rattle.strip_lines.proofs.Grown.{added-grows, justified-added, raised-grows, justified-raised}
use Rattle.strip_lines.proofs.laws.justified_lists_grow.Goals as goal

pub returns-clause-added : goal.returns-clause-added
returns-clause-added c = justified-added

pub returns-clause-added_grows : goal.returns-clause-added_grows
returns-clause-added_grows c = added-grows

pub returns-clause-raised : goal.returns-clause-raised
returns-clause-raised c = justified-raised

pub returns-clause-raised_grows : goal.returns-clause-raised_grows
returns-clause-raised_grows c = raised-grows
