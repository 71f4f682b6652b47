use Rattle.std.proofs.Common.{◌≡◌, [], map, replicate}
use Rattle.strip_reports.specs.Codes.{code_word}
use Rattle.strip_reports.proofs.dood.empty_days.Given as goal

abbrev pub invariant-loop-day : goal.invariant-loop-day
invariant-loop-day l = map code_word l.days.items ≡ replicate l._day []
