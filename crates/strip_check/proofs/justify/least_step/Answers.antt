use Rattle.std.proofs.Common.{◌≡◌, ◌+◌, ◌≤◌, ◌++◌, ◌∷◌, [], ℕ, length, append_assoc, arith, min, sym, ap, ◌∙◌, subst}
use Rattle.strip_mask.specs.Iter.{rest_of}
use Rattle.strip_mask.specs.Set.{members, without}
use Rattle.strip_mask.proofs.Below.{LiesBelow-without, is_set_below}
use Rattle.strip_mask.proofs.Turns.{turn_below, turn_member, turns_all}
use Rattle.strip_model.specs.Film.{FilmData}
use Rattle.strip_film.specs.Film.{IsFilm, LiesIn}
use Rattle.strip_film.specs.Shoot.{step_cost}
use Rattle.strip_lines.specs.Lines.{known, rules_of}
use Rattle.strip_check.specs.Reasons.{by_lines}
use Rattle.strip_check.proofs.Known.{IsLeastOf, least_is, least_more, some_members}
use Rattle.strip_check.proofs.justify.least_step.Goals as goal

pub step-step-requires-clause-remains : goal.step-step-requires-clause-remains
step-step-requires-clause-remains g c = c.requires.firsts c.in-Some.scene
    (turn_member c.args.firsts.0 c.in-Some.scene c.loop-scene.yielded (rest_of c.loop-scene.scene-iterator) (rest_of c.next.new.self) c.loop-scene.invariant.turns c.in-Some.ensures.steps)

pub without-requires : goal.without-requires
without-requires g c =
    turn_below c.args.firsts.0 c.in-Some.scene c.loop-scene.yielded (rest_of c.loop-scene.scene-iterator) (rest_of c.next.new.self) c.loop-scene.invariant.turns c.in-Some.ensures.steps

pub known-rest-requires : goal.known-rest-requires
known-rest-requires g c = record {
  lies = subst (LiesIn g.B.Bounds.film) (sym c.without.ensures) (LiesBelow-without (length g.B.Bounds.film.casts) c.args.q.0 c.in-Some.scene c.requires.lies);
}

pub loop-scene-preserved : goal.loop-scene-preserved
loop-scene-preserved g c =
    let film : FilmData = g.B.Bounds.film in
    let q : ℕ = c.args.q.0 in
    let scene : ℕ = c.in-Some.scene in
    let lines = c.args.best.now.lines in
    let step : c.step-step.result ≡ step_cost film q scene
    = c.step-step.ensures ∙ ap (λ (made : FilmData). step_cost made q scene) c.film-film.ensures in
    let rest : c.known-rest.result ≡ known (rules_of g.B.Bounds.kind film) lines (without q scene)
    = c.known-rest.ensures ∙ ap (known (rules_of g.B.Bounds.kind film) lines) c.without.ensures in
    let fits : step_cost film q scene + known (rules_of g.B.Bounds.kind film) lines (without q scene) ≤ 340282366920938463463374607431768211455
    = omega (arith, step, rest, c.step-step.type_inv, c.known-rest.type_inv) in
    let least : min c.loop-scene.least (step_cost film q scene + known (rules_of g.B.Bounds.kind film) lines (without q scene)) ≡ c.min-least.result
    = omega (arith, step, rest, c.from.ensures, c.from-in-loop-scene.ensures, c.min-least.ensures) in
    record {
      least = subst (λ (n : ℕ). IsLeastOf (λ (s : ℕ). step_cost film q s + known (rules_of g.B.Bounds.kind film) lines (without q s))
          340282366920938463463374607431768211455 n (c.loop-scene.yielded ++ scene ∷ [])) least
          (least_more (λ (s : ℕ). step_cost film q s + known (rules_of g.B.Bounds.kind film) lines (without q s))
          340282366920938463463374607431768211455 c.loop-scene.least c.loop-scene.yielded scene c.loop-scene.invariant.least fits);
      turns = rw append_assoc (rw (← c.in-Some.ensures.steps) c.loop-scene.invariant.turns);
    }

pub returns : goal.returns
returns g c = λ none. (let film : FilmData = g.B.Bounds.film in
    let limits : IsFilm film = subst IsFilm c.film-film.ensures c.keeps_limits.ensures in
    let all = turns_all c.args.firsts.0 c.loop-scene.yielded (rest_of c.loop-scene.scene-iterator) c.loop-scene.invariant.turns c.in-None.ensures.steps.0 in
    least_is (by_lines (rules_of g.B.Bounds.kind film) c.args.best.now.lines) c.args.q.0 none 340282366920938463463374607431768211455 c.loop-scene.least (members c.args.firsts.0)
    (some_members c.args.firsts.0 (is_set_below (length film.casts) c.args.firsts.0 limits.scene_count.1 (λ scene member. c.requires.lies scene (c.requires.firsts scene member))) c.requires.some)
    (subst (IsLeastOf (λ (scene : ℕ). step_cost film c.args.q.0 scene + known (rules_of g.B.Bounds.kind film) c.args.best.now.lines (without c.args.q.0 scene))
    340282366920938463463374607431768211455 c.loop-scene.least) all c.loop-scene.invariant.least))
