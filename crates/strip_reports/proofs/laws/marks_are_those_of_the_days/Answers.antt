use Rattle.strip_reports.proofs.Marks.{waits_that_day, works_that_day}
use Rattle.strip_reports.proofs.laws.marks_are_those_of_the_days.Goals as goal

pub returns-clause-works : goal.returns-clause-works
returns-clause-works c = works_that_day

pub returns-clause-held : goal.returns-clause-held
returns-clause-held c = waits_that_day
