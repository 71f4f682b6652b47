use Rattle.std.proofs.Common.{◌≡◌, ◌+◌, ◌≤◌, ◌++◌, ◌∷◌, [], ℕ, List, Contains, append_assoc, true, sym, subst, arith}
use Rattle.strip_mask.specs.Iter.{rest_of}
use Rattle.strip_mask.specs.Set.{has}
use Rattle.strip_mask.proofs.Members.{Contains-members, has_from_members}
use Rattle.strip_mask.proofs.Turns.{turn_below, turn_member, turns_all}
use Rattle.strip_rule.specs.Rule.{open_firsts}
use Rattle.strip_rule.proofs.Firsts.{first_there, firsts_set}
use Rattle.strip_front.specs.Raised.{IsNumberOf, ReachesBy}
use Rattle.strip_front.specs.Shown.{front_data}
use Rattle.strip_front.proofs.Least.{MostOf, least_more, most_more}
use Rattle.strip_front.proofs.up.least_over.Goals as goal
use Rattle.strip_front.proofs.up.least_over.Goals.{After-number_of}

pub step-requires-clause-remains : goal.step-requires-clause-remains
step-requires-clause-remains c =
    first_there c.args.film.now c.args.rest.0 c.in-Some.scene
    (turn_member (open_firsts c.args.film.now c.args.rest.0) c.in-Some.scene c.loop-scene.yielded (rest_of c.loop-scene.scene-iterator) (rest_of c.next.new.self) c.loop-scene.invariant.turns c.in-Some.ensures.steps)

pub without-requires : goal.without-requires
without-requires c =
    turn_below (open_firsts c.args.film.now c.args.rest.0) c.in-Some.scene c.loop-scene.yielded (rest_of c.loop-scene.scene-iterator) (rest_of c.next.new.self) c.loop-scene.invariant.turns c.in-Some.ensures.steps

member : (c : goal.After-number_of) → has (open_firsts c.args.film.now c.args.rest.0) c.in-Some.scene ≡ true
member c =
    turn_member (open_firsts c.args.film.now c.args.rest.0) c.in-Some.scene c.loop-scene.yielded (rest_of c.loop-scene.scene-iterator) (rest_of c.next.new.self) c.loop-scene.invariant.turns c.in-Some.ensures.steps

-- whatever the scene reaches is this
one_reach : (c : goal.After-number_of) (reach : ℕ) → ReachesBy c.args.film.now (front_data c.args.front.now) c.args.found.now c.args.front.now.numbers.items c.args.rest.0 c.in-Some.scene reach
    → reach ≡ c.step.result + c.number_of.result
one_reach c reach by =
    omega (
      arith,
      by.2,
      c.step.ensures,
      c.number_of.ensures c.requires.front.0 c.args.film.now by.0 c.keeps_limits.ensures c.requires.front.1
          (subst (λ (q : ℕ). IsNumberOf (front_data c.args.front.now) c.args.found.now c.args.front.now.numbers.items q by.0) (sym c.without.ensures) by.1),
    )

pub overflow_add-reach : goal.overflow_add-reach
overflow_add-reach c =
    let some = c.requires.there c.in-Some.scene (member (goal.at.overflow_add-reach c).After-number_of) in
    omega (arith, some.2, one_reach (goal.at.overflow_add-reach c).After-number_of some.0 some.1)

pub loop-scene-preserved : goal.loop-scene-preserved
loop-scene-preserved c =
    let at = (goal.at.loop-scene-preserved c).After-number_of in
    let film = c.args.film.now in
    let reaches : ℕ → ℕ → Type 0 = ReachesBy film (front_data c.args.front.now) c.args.found.now c.args.front.now.numbers.items c.args.rest.0 in
    let some = c.requires.there c.in-Some.scene (member at) in
    let here : reaches c.in-Some.scene (c.step.result + c.number_of.result) = subst (reaches c.in-Some.scene) (one_reach at some.0 some.1) some.1 in
    record {
      most = subst (MostOf reaches (c.loop-scene.yielded ++ c.in-Some.scene ∷ [])) (sym c.min-least.ensures)
          (most_more reaches c.loop-scene.yielded c.in-Some.scene c.loop-scene.least (c.step.result + c.number_of.result) c.loop-scene.invariant.most
          (λ other by. omega (arith, one_reach at other by)));
      least = λ value small all. subst (λ (n : ℕ). value ≤ n) (sym c.min-least.ensures)
          (least_more reaches c.loop-scene.yielded c.in-Some.scene c.loop-scene.least (c.step.result + c.number_of.result) here value (c.loop-scene.invariant.least value small) all);
      turns = rw append_assoc (rw (← c.in-Some.ensures.steps) c.loop-scene.invariant.turns);
    }

pub returns-clause-most : goal.returns-clause-most
returns-clause-most c = λ scene reach there reaches.
    c.loop-scene.invariant.most scene reach
    (subst (λ (xs : List ℕ). Contains xs scene) (sym (turns_all (open_firsts c.args.film.now c.args.rest.0) c.loop-scene.yielded (rest_of c.loop-scene.scene-iterator) c.loop-scene.invariant.turns c.in-None.ensures.steps.0))
    (Contains-members (open_firsts c.args.film.now c.args.rest.0) scene (firsts_set c.args.film.now c.args.rest.0 c.keeps_limits.ensures c.requires.lies) there)) reaches

pub returns-clause-least : goal.returns-clause-least
returns-clause-least c = λ value small all.
    c.loop-scene.invariant.least value small (λ scene reach there reaches.
    all scene reach (has_from_members (open_firsts c.args.film.now c.args.rest.0) scene
    (subst (λ (xs : List ℕ). Contains xs scene) (turns_all (open_firsts c.args.film.now c.args.rest.0) c.loop-scene.yielded (rest_of c.loop-scene.scene-iterator) c.loop-scene.invariant.turns c.in-None.ensures.steps.0) there)) reaches)
