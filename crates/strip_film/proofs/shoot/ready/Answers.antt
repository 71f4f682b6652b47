use Rattle.std.proofs.Common.{◌≡◌, ◌∙◌, append_assoc, length, rules, sym}
use Rattle.std.proofs.lemmas.Bool.{eqb-true}
use Rattle.std.proofs.lemmas.List.{nil_from_length}
use Rattle.strip_mask.specs.Iter.{rest_of}
use Rattle.strip_mask.proofs.Below.{is_set_below}
use Rattle.strip_mask.proofs.Members.{Contains-members}
use Rattle.strip_mask.proofs.Turns.{turn_below, turn_member, turns_all}
use Rattle.strip_film.specs.Shoot.{ready}
use Rattle.strip_film.proofs.Lists.{ready_there}
use Rattle.strip_film.proofs.ByPairs.{ready-no_pairs, ready_decides}
use Rattle.strip_film.proofs.Chosen.{IsChosen-none, IsChosen-with, IsChosen-past, IsChosen-all}
use Rattle.strip_film.proofs.shoot.ready.Goals as goal

pub returns-then-is_empty : goal.returns-then-is_empty
returns-then-is_empty c =
    let none : length c.args.film.now.pairs ≡ 0 = rw (← c.pairs.ensures) (eqb-true (length c.pairs.result.now) 0 (sym c.is_empty.ensures ∙ c.if-is_empty.true)) in
    sym (ready-no_pairs c.args.film.now c.args.q.0 (nil_from_length c.args.film.now.pairs none))

pub loop-scene-init : goal.loop-scene-init
loop-scene-init c = record { so_far = IsChosen-none (ready c.args.film.now c.args.q.0); turns = search rules }

pub before-requires : goal.before-requires
before-requires c =
    turn_below c.args.q.0 c.in-Some.scene c.loop-scene.yielded (rest_of c.loop-scene.scene-iterator) (rest_of c.next.new.self) c.loop-scene.invariant.turns c.in-Some.ensures.steps

pub with-ready-requires : goal.with-ready-requires
with-ready-requires c =
    turn_below c.args.q.0 c.in-Some.scene c.loop-scene.yielded (rest_of c.loop-scene.scene-iterator) (rest_of c.next.new.self) c.loop-scene.invariant.turns c.in-Some.ensures.steps

pub loop-scene-preserved-then-is_empty-2 : goal.loop-scene-preserved-then-is_empty-2
loop-scene-preserved-then-is_empty-2 c = record {
  so_far = rw c.with-ready.ensures
      (IsChosen-with (ready c.args.film.now c.args.q.0) c.loop-scene.yielded c.loop-scene.ready.0 c.in-Some.scene c.loop-scene.invariant.so_far
      (ready_decides c.args.film.now c.args.q.0 c.in-Some.scene c.before-in-loop-scene.result.0 c.meet.result.0 c.is_empty-in-loop-scene.result
      c.before-in-loop-scene.ensures
      (turn_member c.args.q.0 c.in-Some.scene c.loop-scene.yielded (rest_of c.loop-scene.scene-iterator) (rest_of c.next.new.self) c.loop-scene.invariant.turns c.in-Some.ensures.steps)
      c.meet.ensures c.is_empty-in-loop-scene.ensures ∙ c.if-is_empty-2.true));
  turns = rw append_assoc (rw (← c.in-Some.ensures.steps) c.loop-scene.invariant.turns);
}

pub loop-scene-preserved : goal.loop-scene-preserved
loop-scene-preserved c = record {
  so_far = IsChosen-past (ready c.args.film.now c.args.q.0) c.loop-scene.yielded c.loop-scene.ready.0 c.in-Some.scene c.loop-scene.invariant.so_far
      (ready_decides c.args.film.now c.args.q.0 c.in-Some.scene c.before-in-loop-scene.result.0 c.meet.result.0 c.is_empty-in-loop-scene.result
      c.before-in-loop-scene.ensures
      (turn_member c.args.q.0 c.in-Some.scene c.loop-scene.yielded (rest_of c.loop-scene.scene-iterator) (rest_of c.next.new.self) c.loop-scene.invariant.turns c.in-Some.ensures.steps)
      c.meet.ensures c.is_empty-in-loop-scene.ensures ∙ c.if-is_empty-2.false);
  turns = rw append_assoc (rw (← c.in-Some.ensures.steps) c.loop-scene.invariant.turns);
}

pub returns : goal.returns
returns c = IsChosen-all (ready c.args.film.now c.args.q.0) c.loop-scene.yielded c.loop-scene.ready.0 c.loop-scene.invariant.so_far (λ x member.
    rw (turns_all c.args.q.0 c.loop-scene.yielded (rest_of c.loop-scene.scene-iterator) c.loop-scene.invariant.turns c.in-None.ensures.steps.0)
    (Contains-members c.args.q.0 x (is_set_below (length c.args.film.now.casts) c.args.q.0 c.keeps_limits.ensures.scene_count.1 c.requires)
    (ready_there c.args.film.now c.args.q.0 x member)))
