use Rattle.std.proofs.Common.{◌≡◌, ℕ, ◌<◌, [], false}
use Rattle.strip_film.specs.Film.{film_data}
use Rattle.strip_reduce.specs.Steps.{can_join_actors}
use Rattle.strip_reduce.proofs.search.alike_behind.Given as goal

abbrev pub invariant-loop-b : goal.invariant-loop-b
invariant-loop-b l = (j : ℕ) → l.a < j → j < l.b → can_join_actors (film_data l.casts [] [] [] []) l.a j ≡ false
