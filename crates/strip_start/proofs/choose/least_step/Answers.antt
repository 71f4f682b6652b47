use Rattle.std.proofs.Common.{◌≡◌, ℕ, List, Option, append_assoc, subst}
use Rattle.strip_mask.specs.Iter.{rest_of}
use Rattle.strip_mask.specs.Set.{IsSet, members}
use Rattle.strip_mask.proofs.ByMembers.{IsSet-minus}
use Rattle.strip_mask.proofs.Turns.{turn_member, turns_all}
use Rattle.strip_model.specs.Film.{FilmData}
use Rattle.strip_film.specs.Film.{IsFilm}
use Rattle.strip_film.specs.Path.{IsPath, PathData}
use Rattle.strip_film.specs.Shoot.{behind, ready}
use Rattle.strip_film.specs.Shown.{running_data}
use Rattle.strip_film.proofs.Lists.{ready_there}
use Rattle.strip_film.proofs.Paths.{rest_lies, rest_set}
use Rattle.strip_start.specs.declared.choose.Choice.{Choice}
use Rattle.strip_start.proofs.Chosen.{IsLeastAmong, least_of_all, least_tries, none_of_all}
use Rattle.strip_start.proofs.choose.least_step.Goals as goal

ready_set : (film : FilmData) (path : PathData) → IsFilm film → IsPath film path → IsSet (ready film path.rest)
ready_set film path limits is = IsSet-minus path.rest (behind film.pairs path.rest) (rest_set film path is limits)

pub ready-requires : goal.ready-requires
ready-requires c = rw c.rest.ensures (rest_lies c.args.film.now (running_data c.args.state.now).path c.requires.path)

pub step-step-requires-clause-remains : goal.step-step-requires-clause-remains
step-step-requires-clause-remains c = ready_there c.args.film.now (running_data c.args.state.now).path.rest c.in-Some.scene
    (turn_member (ready c.args.film.now (running_data c.args.state.now).path.rest) c.in-Some.scene c.loop-scene.yielded (rest_of c.loop-scene.scene-iterator)
    (rest_of c.next.new.self) c.loop-scene.invariant.turns c.in-Some.ensures.steps)

pub loop-scene-preserved : goal.loop-scene-preserved
loop-scene-preserved c = record {
  best = least_tries c.args.film.now (running_data c.args.state.now).path.rest c.loop-scene.yielded (record { scene = c.in-Some.scene; step = c.step-step.result })
      c.step-step.ensures c.loop-scene.best c.lesser.result (rest_of c.next.new.self)
      (rw (← c.in-Some.ensures.steps) c.loop-scene.invariant.turns) c.lesser.ensures c.loop-scene.invariant.best;
  turns = rw append_assoc (rw (← c.in-Some.ensures.steps) c.loop-scene.invariant.turns);
}

pub returns-clause-some : goal.returns-clause-some
returns-clause-some c =
    let film : FilmData = c.args.film.now in
    let path : PathData = (running_data c.args.state.now).path in
    let tried : List ℕ = c.loop-scene.yielded in
    let all : tried ≡ members (ready film path.rest)
    = turns_all (ready film path.rest) tried (rest_of c.loop-scene.scene-iterator) c.loop-scene.invariant.turns c.in-None.ensures.steps.0 in
    least_of_all film path.rest tried all c.in_ok-best.field-0 (ready_set film path c.keeps_limits.ensures c.requires.path)
    (subst (λ (best : Option Choice). IsLeastAmong film path.rest tried best) c.in_ok-best.was c.loop-scene.invariant.best)

pub returns-in_err-best-clause-none : goal.returns-in_err-best-clause-none
returns-in_err-best-clause-none c = λ _.
    let film : FilmData = c.args.film.now in
    let path : PathData = (running_data c.args.state.now).path in
    let tried : List ℕ = c.loop-scene.yielded in
    let all : tried ≡ members (ready film path.rest)
    = turns_all (ready film path.rest) tried (rest_of c.loop-scene.scene-iterator) c.loop-scene.invariant.turns c.in-None.ensures.steps.0 in
    none_of_all film path.rest tried all c.keeps_limits.ensures (rest_set film path c.requires.path c.keeps_limits.ensures)
    (ready_set film path c.keeps_limits.ensures c.requires.path)
    (subst (λ (best : Option Choice). IsLeastAmong film path.rest tried best) c.in_err-best.was c.loop-scene.invariant.best)
