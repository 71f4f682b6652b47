use Rattle.std.proofs.Common.{◌≡◌, ℕ, ◌+◌, ◌≤◌, true, List, length, Contains, append_assoc, sym, ap, ◌∙◌, subst, arith}
use Rattle.strip_mask.specs.Set.{has, members, without}
use Rattle.strip_mask.specs.Iter.{rest_of}
use Rattle.strip_mask.proofs.Below.{LiesBelow-full, LiesBelow-without}
use Rattle.strip_mask.proofs.Members.{Contains-members}
use Rattle.strip_mask.proofs.Turns.{turn_below, turn_member, turns_all}
use Rattle.strip_model.specs.Film.{FilmData}
use Rattle.strip_film.specs.Film.{IsFilm, LiesIn, all_scenes}
use Rattle.strip_film.specs.Shoot.{step_cost}
use Rattle.strip_bound.specs.Bounds.{bound}
use Rattle.strip_rule.specs.Rule.{open_firsts}
use Rattle.strip_rule.proofs.Firsts.{first_there, firsts_set}
use Rattle.strip_lines.proofs.Reached.{each_more}
use Rattle.test_workers.proofs.book.each_first_reaches.Given.{Over}
use Rattle.test_workers.proofs.book.each_first_reaches.Goals as goal
use Rattle.test_workers.proofs.book.each_first_reaches.Goals.{After-saturating_sub, In-Some}

-- the film that is bounded
film_of : (g : Over) → In-Some g → FilmData
film_of g c = g.B.Bounds.film

all_is : (g : Over) (c : In-Some g) → c.all-all.result.0 ≡ all_scenes g.B.Bounds.film
all_is g c = c.all-all.ensures ∙ ap all_scenes c.film-film.ensures

-- the scene of a turn is an open first
is_first : (g : Over) (c : In-Some g) → has (open_firsts g.B.Bounds.film (all_scenes g.B.Bounds.film)) c.in-Some.scene ≡ true
is_first g c = turn_member (open_firsts g.B.Bounds.film (all_scenes g.B.Bounds.film)) c.in-Some.scene c.loop-scene.yielded (rest_of c.loop-scene.scene-iterator)
    (rest_of c.next.new.self) c.loop-scene.invariant.turns c.in-Some.ensures.steps

pub open_firsts-requires : goal.open_firsts-requires
open_firsts-requires g c = subst (LiesIn c.film-film.result.now) (sym c.all-all.ensures) (LiesBelow-full (length c.film-film.result.now.casts))

pub without-requires : goal.without-requires
without-requires g c = turn_below (open_firsts g.B.Bounds.film (all_scenes g.B.Bounds.film)) c.in-Some.scene c.loop-scene.yielded
    (rest_of c.loop-scene.scene-iterator) (rest_of c.next.new.self) c.loop-scene.invariant.turns c.in-Some.ensures.steps

pub whole-rest-requires : goal.whole-rest-requires
whole-rest-requires g c =
    let at = (goal.at.whole-rest-requires g c).In-Some in
    let lies : LiesIn g.B.Bounds.film c.all-all.result.0
    = subst (LiesIn g.B.Bounds.film) (sym (all_is g at)) (LiesBelow-full (length g.B.Bounds.film.casts)) in
    record { lies = rw c.without.ensures (LiesBelow-without (length g.B.Bounds.film.casts) c.all-all.result.0 c.in-Some.scene lies) }

pub step-requires-clause-lies : goal.step-requires-clause-lies
step-requires-clause-lies g c = subst (LiesIn c.film-film.result.now) (sym c.all-all.ensures) (LiesBelow-full (length c.film-film.result.now.casts))

pub step-requires-clause-remains : goal.step-requires-clause-remains
step-requires-clause-remains g c =
    let at = (goal.at.step-requires-clause-remains g c).In-Some in
    subst (λ (q : ℕ). has q c.in-Some.scene ≡ true) (sym (all_is g at))
    (first_there g.B.Bounds.film (all_scenes g.B.Bounds.film) c.in-Some.scene (is_first g at))

pub loop-scene-preserved : goal.loop-scene-preserved
loop-scene-preserved g c =
    let at = (goal.at.loop-scene-preserved g c).In-Some in
    let film : FilmData = g.B.Bounds.film in
    let step_is : c.step.result ≡ step_cost film (all_scenes film) c.in-Some.scene
    = c.step.ensures ∙ ap (λ (q : ℕ). step_cost c.film-film.result.now q c.in-Some.scene) (all_is g at)
    ∙ ap (λ (f : FilmData). step_cost f (all_scenes film) c.in-Some.scene) c.film-film.ensures in
    let rest_is : c.whole-rest.result ≡ bound g.B.Bounds.kind film (without (all_scenes film) c.in-Some.scene)
    = c.whole-rest.ensures ∙ ap (bound g.B.Bounds.kind film) (c.without.ensures ∙ ap (λ (q : ℕ). without q c.in-Some.scene) (all_is g at)) in
    record {
      reach = each_more
          (λ scene. c.args.number ≤ step_cost film (all_scenes film) scene + bound g.B.Bounds.kind film (without (all_scenes film) scene))
          c.loop-scene.yielded c.in-Some.scene c.loop-scene.invariant.reach
          (omega (arith, step_is, rest_is, c.saturating_sub.ensures, c.if-saturating_sub-rest.false));
      turns = rw append_assoc (rw (← c.in-Some.ensures.steps) c.loop-scene.invariant.turns);
    }

pub returns : goal.returns
returns g c = λ _ scene first.
    let film : FilmData = g.B.Bounds.film in
    let firsts : ℕ = open_firsts film (all_scenes film) in
    let limits : IsFilm film = subst IsFilm c.film-film.ensures c.keeps_limits.ensures in
    let all : c.loop-scene.yielded ≡ members firsts
    = turns_all firsts c.loop-scene.yielded (rest_of c.loop-scene.scene-iterator) c.loop-scene.invariant.turns c.in-None.ensures.steps.0 in
    c.loop-scene.invariant.reach scene (subst (λ (xs : List ℕ). Contains xs scene) (sym all)
    (Contains-members firsts scene (firsts_set film (all_scenes film) limits (LiesBelow-full (length film.casts))) first))
