use Rattle.std.proofs.Common.{◌≡◌, ℕ, ◌<◌, true, ap, subst, append_assoc, arith}
use Rattle.strip_mask.specs.Iter.{rest_of}
use Rattle.strip_mask.specs.Set.{has, size, without}
use Rattle.strip_mask.proofs.Turns.{lesser_before, turn_member, turns_all}
use Rattle.strip_model.specs.Film.{FilmData}
use Rattle.strip_film.specs.Film.{IsFilm}
use Rattle.strip_film.specs.Path.{IsPath, PathData}
use Rattle.strip_film.specs.Shoot.{ready}
use Rattle.strip_film.specs.Shown.{path_data}
use Rattle.strip_film.proofs.Paths.{rest_lies, one_fewer}
use Rattle.test_search.specs.Beginning.{IsFirstCheapestFrom}
use Rattle.test_search.proofs.Search.{best_all, best_pay, best_tries, first_at_end, none_left, pay_at_end}
use Rattle.test_search.proofs.cheapest.+cheapest_from.Goals as goal

pub ready-requires : goal.ready-requires
ready-requires t c = rw c.rest.ensures (rest_lies c.args.film.now (path_data c.args.path.now) c.requires)

pub extend-requires-clause-ready : goal.extend-requires-clause-ready
extend-requires-clause-ready t c =
    turn_member (ready c.args.film.now c.args.path.now.rest.0) c.in-Some.scene c.loop-scene.yielded (rest_of c.loop-scene.scene-iterator)
    (rest_of c.next.new.self) c.loop-scene.invariant.turns c.in-Some.ensures.steps

-- a path with one scene more leaves fewer
fewer : (film : FilmData) (limits : IsFilm film) (path longer : PathData) (scene : ℕ) → IsPath film path → has (ready film path.rest) scene ≡ true
    → longer.rest ≡ without path.rest scene → size longer.rest < size path.rest
fewer film limits path longer scene is is_ready rest =
    omega (arith, ap size rest, one_fewer film path is limits scene is_ready)

pub cheapest_from-requires : goal.cheapest_from-requires
cheapest_from-requires t c =
    let less = fewer c.args.film.now c.keeps_limits.ensures (path_data c.args.path.now) (path_data c.extend.result) c.in-Some.scene c.requires
    (turn_member (ready c.args.film.now c.args.path.now.rest.0) c.in-Some.scene c.loop-scene.yielded (rest_of c.loop-scene.scene-iterator)
    (rest_of c.next.new.self) c.loop-scene.invariant.turns c.in-Some.ensures.steps)
    (ap (λ (path : PathData). path.rest) c.extend.ensures.extended) in
    (omega (arith, less, c.decreases), c.extend.ensures.path)

pub loop-scene-preserved : goal.loop-scene-preserved
loop-scene-preserved t c = record {
  best = best_tries c.args.film.now (path_data c.args.path.now).scenes c.loop-scene.yielded c.in-Some.scene
      (lesser_before (ready c.args.film.now c.args.path.now.rest.0) c.in-Some.scene c.loop-scene.yielded (rest_of c.next.new.self)
      (rw (← c.in-Some.ensures.steps) c.loop-scene.invariant.turns))
      c.loop-scene.best c.in_ok-found.found c.cheaper.result
      (subst (λ (path : PathData). IsFirstCheapestFrom c.args.film.now path.scenes c.in_ok-found.found.order.items) c.extend.ensures.extended c.in_ok-found.ensures.first)
      c.in_ok-found.ensures.pay c.cheaper.ensures c.loop-scene.invariant.best;
  turns = rw append_assoc (rw (← c.in-Some.ensures.steps) c.loop-scene.invariant.turns);
}

pub returns-in-Some-best-clause-first : goal.returns-in-Some-best-clause-first
returns-in-Some-best-clause-first t c =
    best_all c.args.film.now c.keeps_limits.ensures (path_data c.args.path.now) c.requires c.loop-scene.yielded
    (turns_all (ready c.args.film.now c.args.path.now.rest.0) c.loop-scene.yielded (rest_of c.loop-scene.scene-iterator) c.loop-scene.invariant.turns c.in-None.ensures.steps.0)
    c.loop-scene.best c.in-Some-best.best c.in-Some-best.is c.loop-scene.invariant.best

pub returns-in-Some-best-clause-pay : goal.returns-in-Some-best-clause-pay
returns-in-Some-best-clause-pay t c =
    best_pay c.args.film.now (path_data c.args.path.now).scenes c.loop-scene.yielded c.loop-scene.best c.in-Some-best.best c.in-Some-best.is c.loop-scene.invariant.best

pub returns-in-None-best-clause-first : goal.returns-in-None-best-clause-first
returns-in-None-best-clause-first t c =
    first_at_end c.args.film.now c.keeps_limits.ensures (path_data c.args.path.now) c.requires
    (none_left c.args.film.now c.keeps_limits.ensures (path_data c.args.path.now) c.requires c.loop-scene.yielded
    (turns_all (ready c.args.film.now c.args.path.now.rest.0) c.loop-scene.yielded (rest_of c.loop-scene.scene-iterator) c.loop-scene.invariant.turns c.in-None.ensures.steps.0)
    c.loop-scene.best c.in-None-best.is c.loop-scene.invariant.best)
    c.complete.result c.complete.ensures.order

pub returns-in-None-best-clause-pay : goal.returns-in-None-best-clause-pay
returns-in-None-best-clause-pay t c =
    pay_at_end c.args.film.now c.keeps_limits.ensures (path_data c.args.path.now) c.requires
    (none_left c.args.film.now c.keeps_limits.ensures (path_data c.args.path.now) c.requires c.loop-scene.yielded
    (turns_all (ready c.args.film.now c.args.path.now.rest.0) c.loop-scene.yielded (rest_of c.loop-scene.scene-iterator) c.loop-scene.invariant.turns c.in-None.ensures.steps.0)
    c.loop-scene.best c.in-None-best.is c.loop-scene.invariant.best)
    c.complete.result c.complete.ensures.order c.complete.ensures.pay
