use Rattle.std.proofs.Common.{◌≡◌, true, [], length, sym, ◌∙◌, arith}
use Rattle.strip_model.specs.Film.{FilmData}
use Rattle.strip_film.specs.Film.{film_data}
use Rattle.strip_reduce.specs.Steps.{can_drop}
use Rattle.strip_reduce.proofs.Least.{least_is, least_none}
use Rattle.strip_reduce.proofs.Searching.{can_drop_once, can_drop_waiting}
use Rattle.strip_reduce.proofs.search.droppable.Goals as goal
use Rattle.strip_reduce.proofs.search.droppable.Goals.{then-hold-eq0-via-then-hold-eq0, then-hold-eq0-via-else-hold-eq0+then-not-has}

pub returns-then-hold-eq0 : goal.returns-then-hold-eq0
returns-then-hold-eq0 c =
    let film : FilmData = film_data c.args.casts.now [] [] c.args.holds.now [] in
    let passes : can_drop film c.loop-actor.actor ≡ true = elim c.then-hold-eq0.branch [
      | then-hold-eq0-via-then-hold-eq0 w ↦ can_drop_waiting film c.loop-actor.actor w.if-hold-eq0.true
      | then-hold-eq0-via-else-hold-eq0+then-not-has w ↦
          can_drop_once film c.working_twice-twice.result.0 c.loop-actor.actor (c.working_twice-twice.ensures c.loop-actor.actor) (sym w.has.ensures ∙ w.if-not-has.true)
    ] in
    sym (least_is (length c.args.holds.now) (can_drop film) c.loop-actor.actor c.loop-actor-test.true passes c.loop-actor.invariant)

pub returns : goal.returns
returns c =
    sym (least_none (length c.args.holds.now) (can_drop (film_data c.args.casts.now [] [] c.args.holds.now [])) (λ j small. c.loop-actor.invariant j (omega arith)))
