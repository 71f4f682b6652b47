use Rattle.std.proofs.Common.{◌≡◌, ◌≤◌, ◌+◌, ℕ, All, true, false, refl, subst}
use Rattle.strip_mask.specs.Iter.{rest_of}
use Rattle.strip_mask.specs.Set.{members, without}
use Rattle.strip_mask.proofs.Turns.{turn_member, turns_all}
use Rattle.strip_film.specs.Shoot.{step_cost}
use Rattle.strip_lines.specs.Lines.{known, rules_of}
use Rattle.strip_check.proofs.Known.{at_turn}
use Rattle.strip_check.proofs.justify.steps_reach.Goals as goal

pub step_reaches-requires-clause-scene : goal.step_reaches-requires-clause-scene
step_reaches-requires-clause-scene g c = c.requires.firsts c.in-Some.scene
    (turn_member c.args.firsts.0 c.in-Some.scene c.loop-scene.yielded (rest_of c.loop-scene.scene-iterator) (rest_of c.next.new.self) c.loop-scene.invariant.turns c.in-Some.ensures.steps)

pub returns-then-not-step_reaches : goal.returns-then-not-step_reaches
returns-then-not-step_reaches g c = record {
  reach = (
    λ yes. (cc),
    λ each. (let reaches : c.step_reaches.result ≡ true = c.step_reaches.ensures.reach.1
        (at_turn (λ (scene : ℕ). c.args.bound ≤ step_cost g.B.Bounds.film c.args.q.0 scene + known (rules_of g.B.Bounds.kind g.B.Bounds.film) c.args.best.now.lines (without c.args.q.0 scene))
        (members c.args.firsts.0) c.loop-scene.yielded (rest_of c.loop-scene.scene-iterator) (rest_of c.next.new.self) c.in-Some.scene c.loop-scene.invariant.turns c.in-Some.ensures.steps each) in
        let turned : c.step_reaches.result ≡ false = c.if-not-step_reaches.true in
        cc),
  );
}

pub returns : goal.returns
returns g c = record {
  reach = (
    λ yes. subst (All (λ (scene : ℕ). c.args.bound ≤ step_cost g.B.Bounds.film c.args.q.0 scene + known (rules_of g.B.Bounds.kind g.B.Bounds.film) c.args.best.now.lines (without c.args.q.0 scene)))
        (turns_all c.args.firsts.0 c.loop-scene.yielded (rest_of c.loop-scene.scene-iterator) c.loop-scene.invariant.turns c.in-None.ensures.steps.0) c.loop-scene.invariant.reach,
    λ each. refl,
  );
}
