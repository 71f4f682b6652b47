use Rattle.std.proofs.Common.{◌≡◌, map}
use Rattle.std.specs.List.{range_with_len}
use Rattle.std.specs.String.{string_bytes}
use Rattle.strip_reports.specs.Text.{day_number}
use Rattle.strip_reports.proofs.dood.day_numbers.Given as goal

abbrev pub invariant-loop-day : goal.invariant-loop-day
invariant-loop-day l = map (λ number. string_bytes number) l.numbers.items ≡ map day_number (range_with_len 0 l.day)
