use Rattle.std.proofs.Common.{◌≡◌, take, count_by}
use Rattle.std.specs.List.{range_with_len}
use Rattle.strip_reports.specs.Days.{waits_on, work_days}
use Rattle.strip_reports.proofs.days.hold_days.Given as goal

abbrev pub invariant-loop-crew : goal.invariant-loop-crew
invariant-loop-crew l = record {
  done : l.done ≡ work_days (take l.crew-index l.crews) l.actor;
  hold : l.hold ≡ count_by (waits_on l.crews l.actor) (range_with_len 0 l.crew-index);
}
