use Rattle.std.proofs.Common.{rules, ℕ, not, ap, ◌∙◌, append_assoc}
use Rattle.strip_mask.specs.Iter.{rest_of}
use Rattle.strip_mask.proofs.Turns.{turn_member, turns_all}
use Rattle.strip_arrivals.specs.Arrivals.{is_without}
use Rattle.strip_arrivals.proofs.Sets.{actors_members, scenes_more, scenes_none}
use Rattle.strip_arrivals.proofs.table.ArrivalsTable.scenes_with.Goals as goal

pub loop-actor-init : goal.loop-actor-init
loop-actor-init c = record {
  told = scenes_none c.args.self.now;
  turns = ap rest_of c.into_iter-actor-iterator.ensures.into_iter_gives ∙ c.iter-actor-items.ensures.left;
}

pub plays-requires : goal.plays-requires
plays-requires c = c.requires c.in-Some.actor (turn_member c.args.actors.0 c.in-Some.actor c.loop-actor.yielded (rest_of c.loop-actor.actor-iterator) (rest_of c.next.new.self) c.loop-actor.invariant.turns c.in-Some.ensures.steps)

pub loop-actor-preserved : goal.loop-actor-preserved
loop-actor-preserved c = record {
  told = λ scene. scenes_more c.args.self.now c.loop-actor.yielded c.in-Some.actor c.loop-actor.scenes.0 c.plays.result.0 c.union-scenes.result.0 scene
      (c.loop-actor.invariant.told scene) (c.plays.ensures scene) c.union-scenes.ensures;
  turns = rw append_assoc (rw (← c.in-Some.ensures.steps) c.loop-actor.invariant.turns);
}

pub returns : goal.returns
returns c = λ scene. c.loop-actor.invariant.told scene ∙ ap (λ (s : ℕ). not (is_without c.args.self.now s scene))
    (actors_members c.args.actors.0 c.loop-actor.yielded (turns_all c.args.actors.0 c.loop-actor.yielded (rest_of c.loop-actor.actor-iterator) c.loop-actor.invariant.turns c.in-None.ensures.steps.0) (search rules))
