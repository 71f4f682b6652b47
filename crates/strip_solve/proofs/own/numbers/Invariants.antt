use Rattle.std.proofs.Common.{◌≡◌}
use Rattle.strip_mask.specs.Set.{numbers_below}
use Rattle.strip_solve.proofs.own.numbers.Given as goal

abbrev pub invariant-loop-number : goal.invariant-loop-number
invariant-loop-number l = record { so_far : l.numbers.items ≡ numbers_below l.number }
