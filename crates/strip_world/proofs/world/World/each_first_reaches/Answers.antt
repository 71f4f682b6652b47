use Rattle.std.proofs.Common.{◌≡◌, ℕ, ◌+◌, ◌≤◌, true, false, List, length, Contains, append_assoc, refl, sym, ap, ◌∙◌, subst, arith}
use Rattle.strip_mask.specs.Set.{has, members, without}
use Rattle.strip_mask.specs.Iter.{rest_of}
use Rattle.strip_mask.proofs.Below.{LiesBelow-without}
use Rattle.strip_mask.proofs.Members.{Contains-members}
use Rattle.strip_mask.proofs.Turns.{turn_below, turn_member, turns_all}
use Rattle.strip_film.specs.Film.{IsFilm}
use Rattle.strip_film.specs.Shoot.{step_cost}
use Rattle.strip_rule.specs.Rule.{open_firsts}
use Rattle.strip_rule.proofs.Firsts.{first_there, firsts_set}
use Rattle.strip_lines.specs.Lines.{known}
use Rattle.strip_hand.specs.Search.{search_rules}
use Rattle.strip_world.specs.World.{WorldData}
use Rattle.strip_lines.proofs.Reached.{each_more}
use Rattle.strip_world.proofs.world.World.each_first_reaches.Given.{Over}
use Rattle.strip_world.proofs.world.World.each_first_reaches.Goals as goal
use Rattle.strip_world.proofs.world.World.each_first_reaches.Goals.{After-saturating_sub, In-Some}

-- the scene of a turn is an open first
is_first : (g : Over) (c : In-Some g) → has (open_firsts c.args.self.now.search.film c.args.set.0) c.in-Some.scene ≡ true
is_first g c = turn_member (open_firsts c.args.self.now.search.film c.args.set.0) c.in-Some.scene c.loop-scene.yielded (rest_of c.loop-scene.scene-iterator)
    (rest_of c.next.new.self) c.loop-scene.invariant.turns c.in-Some.ensures.steps

pub without-requires : goal.without-requires
without-requires g c = turn_below (open_firsts c.args.self.now.search.film c.args.set.0) c.in-Some.scene c.loop-scene.yielded
    (rest_of c.loop-scene.scene-iterator) (rest_of c.next.new.self) c.loop-scene.invariant.turns c.in-Some.ensures.steps

pub known-rest-requires-clause-lies : goal.known-rest-requires-clause-lies
known-rest-requires-clause-lies g c =
    rw c.without.ensures (LiesBelow-without (length c.args.self.now.search.film.casts) c.args.set.0 c.in-Some.scene c.requires.lies)

pub step-requires-clause-remains : goal.step-requires-clause-remains
step-requires-clause-remains g c =
    first_there c.args.self.now.search.film c.args.set.0 c.in-Some.scene (is_first g (goal.at.step-requires-clause-remains g c).In-Some)

-- its step, and what is known of the rest
step_is : (g : Over) (c : After-saturating_sub g) → c.step.result ≡ step_cost c.args.self.now.search.film c.args.set.0 c.in-Some.scene
step_is g c = c.step.ensures ∙ ap (λ (w : WorldData). step_cost w.search.film c.args.set.0 c.in-Some.scene) c.self.view_is

known_is : (g : Over) (c : After-saturating_sub g)
    → c.known-rest.result ≡ known (search_rules c.args.self.now.search) c.args.self.now.lines (without c.args.set.0 c.in-Some.scene)
known_is g c = c.known-rest.ensures ∙ ap (known (search_rules c.args.self.now.search) c.args.self.now.lines) c.without.ensures

pub returns-then-saturating_sub-rest : goal.returns-then-saturating_sub-rest
returns-then-saturating_sub-rest g c =
    let at = (goal.at.returns-then-saturating_sub-rest g c).After-saturating_sub in (
      λ never. absurd (let e : false ≡ true = never in cc),
      λ each. absurd (let reach = each c.in-Some.scene (is_first g (goal.at.returns-then-saturating_sub-rest g c).In-Some) in
          omega (arith, reach, known_is g at, step_is g at, c.saturating_sub.ensures, c.if-saturating_sub-rest.true)),
    )

pub loop-scene-preserved : goal.loop-scene-preserved
loop-scene-preserved g c =
    let at = (goal.at.loop-scene-preserved g c).After-saturating_sub in
    record {
      reach = each_more
          (λ scene. c.args.bound ≤ step_cost c.args.self.now.search.film c.args.set.0 scene
          + known (search_rules c.args.self.now.search) c.args.self.now.lines (without c.args.set.0 scene))
          c.loop-scene.yielded c.in-Some.scene c.loop-scene.invariant.reach
          (omega (arith, known_is g at, step_is g at, c.saturating_sub.ensures, c.if-saturating_sub-rest.false));
      turns = rw append_assoc (rw (← c.in-Some.ensures.steps) c.loop-scene.invariant.turns);
    }

pub returns : goal.returns
returns g c =
    let firsts = open_firsts c.args.self.now.search.film c.args.set.0 in
    let limits : IsFilm c.args.self.now.search.film = subst (λ (w : WorldData). IsFilm w.search.film) c.self.view_is c.keeps_limits.ensures in
    let all : c.loop-scene.yielded ≡ members firsts
    = turns_all firsts c.loop-scene.yielded (rest_of c.loop-scene.scene-iterator) c.loop-scene.invariant.turns c.in-None.ensures.steps.0 in (
      λ _ scene first. c.loop-scene.invariant.reach scene (subst (λ (xs : List ℕ). Contains xs scene) (sym all)
          (Contains-members firsts scene (firsts_set c.args.self.now.search.film c.args.set.0 limits c.requires.lies) first)),
      λ _. refl,
    )
