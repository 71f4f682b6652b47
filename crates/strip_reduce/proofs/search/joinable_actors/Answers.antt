use Rattle.std.proofs.Common.{[], sym, arith}
use Rattle.strip_film.specs.Film.{film_data}
use Rattle.strip_reduce.specs.Steps.{can_join_actors}
use Rattle.strip_reduce.proofs.Least.{first_two, next_apart, no_two}
use Rattle.strip_reduce.proofs.search.joinable_actors.Goals as goal

pub returns-in-Some : goal.returns-in-Some
returns-in-Some c =
    sym (first_two c.args.actors (can_join_actors (film_data c.args.casts.now [] [] [] [])) c.loop-a.a c.in-Some.b c.loop-a.invariant (sym c.in-Some.ensures))

pub loop-a-preserved : goal.loop-a-preserved
loop-a-preserved c =
    next_apart c.args.actors (can_join_actors (film_data c.args.casts.now [] [] [] [])) c.loop-a.a c.loop-a.invariant (sym c.in_default.ensures)

pub returns : goal.returns
returns c = sym (no_two c.args.actors (can_join_actors (film_data c.args.casts.now [] [] [] [])) c.loop-a.a (omega arith) c.loop-a.invariant)
