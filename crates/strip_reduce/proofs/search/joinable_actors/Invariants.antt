use Rattle.std.proofs.Common.{[]}
use Rattle.strip_film.specs.Film.{film_data}
use Rattle.strip_reduce.specs.Steps.{can_join_actors}
use Rattle.strip_reduce.specs.Search.{NoTwoBelow}
use Rattle.strip_reduce.proofs.search.joinable_actors.Given as goal

abbrev pub invariant-loop-a : goal.invariant-loop-a
invariant-loop-a l = NoTwoBelow l.a l.actors (can_join_actors (film_data l.casts [] [] [] []))
