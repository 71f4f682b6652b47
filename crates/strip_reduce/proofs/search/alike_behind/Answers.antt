use Rattle.std.proofs.Common.{◌<◌, [], sym, arith, ◌∙◌}
use Rattle.strip_film.specs.Film.{film_data}
use Rattle.strip_reduce.specs.Steps.{can_join_actors}
use Rattle.strip_reduce.proofs.Least.{behind_is, behind_none}
use Rattle.strip_reduce.proofs.search.alike_behind.Goals as goal

pub returns-then-has : goal.returns-then-has
returns-then-has c =
    let behind : c.args.a < c.loop-b.b = omega arith in
    let small : c.loop-b.b < 64 = omega arith in
    sym (behind_is c.args.actors (can_join_actors (film_data c.args.casts.now [] [] [] [])) c.args.a c.loop-b.b behind c.loop-b-test.true
    (sym (c.working_alike-alike.ensures c.loop-b.b small) ∙ (sym c.has.ensures ∙ c.if-has.true)) c.loop-b.invariant)

pub returns : goal.returns
returns c =
    sym (behind_none c.args.actors (can_join_actors (film_data c.args.casts.now [] [] [] [])) c.args.a
    (λ j past small. c.loop-b.invariant j past (omega arith)))
