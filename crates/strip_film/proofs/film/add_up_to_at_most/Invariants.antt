use Rattle.std.proofs.Common.{◌≡◌, ◌+◌, sum, take}
use Rattle.strip_film.proofs.film.add_up_to_at_most.Given as goal

abbrev pub invariant-loop-value : goal.invariant-loop-value
invariant-loop-value l = l.left + sum (take l.value-index l.values) ≡ l.limit
