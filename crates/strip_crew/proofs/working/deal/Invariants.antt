use Rattle.strip_front.specs.Shown.{front_data}
use Rattle.strip_crew.specs.Crew.{AreDealt}
use Rattle.strip_crew.proofs.working.deal.Given as goal

abbrev pub invariant-loop-desk : goal.invariant-loop-desk
invariant-loop-desk g l = AreDealt g.B.Bounds.kind g.B.Bounds.film (front_data l.fn.front) l.fn.tables.least l.fn.tables.book l.fn.passes l.passes l.jobs.items l.desk
