use Rattle.std.proofs.Common.{◌≡◌, take}
use Rattle.strip_reports.specs.Days.{work_days}
use Rattle.strip_reports.proofs.days.work_days.Given as goal

abbrev pub invariant-loop-crew : goal.invariant-loop-crew
invariant-loop-crew l = l.work ≡ work_days (take l.crew-index l.crews) l.actor
