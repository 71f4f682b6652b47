use Rattle.std.proofs.Common.{◌≡◌, take, map}
use Rattle.std.specs.List.{range_with_len}
use Rattle.strip_reports.specs.Days.{day_code, work_days}
use Rattle.strip_reports.specs.Codes.{code_word}
use Rattle.strip_reports.proofs.days.codes.Given as goal

abbrev pub invariant-loop-crew : goal.invariant-loop-crew
invariant-loop-crew l = record {
  done : l.done ≡ work_days (take l.crew-index l.crews) l.actor;
  codes : map code_word l.codes.items ≡ map (day_code l.crews l.actor) (range_with_len 0 l.crew-index);
}
