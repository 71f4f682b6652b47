use Rattle.std.proofs.Common.{◌≡◌, ◌++◌, replicate}
use Rattle.strip_reports.proofs.days.push_days.Given as goal

abbrev pub invariant-loop-day : goal.invariant-loop-day
invariant-loop-day l = l.crews.items ≡ l.fn.crews.items ++ replicate l._day l.cast
