use Rattle.std.proofs.Common.{ℕ, eqb, arith, append_assoc, slice_index}
use Rattle.strip_mask.specs.Iter.{rest_of}
use Rattle.strip_mask.proofs.Below.{is_set_below}
use Rattle.strip_mask.proofs.Turns.{turn_below, turns_all}
use Rattle.strip_film.proofs.Turned.{found_none, found_one, found_all}
use Rattle.strip_film.proofs.running.without_scenes.Goals as goal

pub loop-actor-init : goal.loop-actor-init
loop-actor-init c = record {
  found = found_none (λ (actor : ℕ). eqb (slice_index c.args.counts.now actor) 0);
  turns = rw c.into_iter-actor-iterator.ensures.into_iter_gives c.iter-actor-items.ensures.left;
}

pub bounds-counts-actor : goal.bounds-counts-actor
bounds-counts-actor c =
    turn_below c.args.cast.0 c.in-Some.actor c.loop-actor.yielded (rest_of c.loop-actor.actor-iterator) (rest_of c.next.new.self) c.loop-actor.invariant.turns c.in-Some.ensures.steps

pub with-found-requires : goal.with-found-requires
with-found-requires c =
    turn_below c.args.cast.0 c.in-Some.actor c.loop-actor.yielded (rest_of c.loop-actor.actor-iterator) (rest_of c.next.new.self) c.loop-actor.invariant.turns c.in-Some.ensures.steps

pub loop-actor-preserved-then-counts-actor-eq0 : goal.loop-actor-preserved-then-counts-actor-eq0
loop-actor-preserved-then-counts-actor-eq0 c = record {
  found = rw c.with-found.ensures (found_one (λ (actor : ℕ). eqb (slice_index c.args.counts.now actor) 0) c.loop-actor.yielded c.loop-actor.found.0 c.in-Some.actor
      (search (arith, c.if-counts-actor-eq0.true)) c.loop-actor.invariant.found);
  turns = rw append_assoc (rw (← c.in-Some.ensures.steps) c.loop-actor.invariant.turns);
}

pub returns : goal.returns
returns c = found_all (λ (actor : ℕ). eqb (slice_index c.args.counts.now actor) 0) c.args.cast.0 c.loop-actor.found.0 c.loop-actor.yielded
    (is_set_below 64 c.args.cast.0 (omega arith) c.requires)
    (turns_all c.args.cast.0 c.loop-actor.yielded (rest_of c.loop-actor.actor-iterator) c.loop-actor.invariant.turns c.in-None.ensures.steps.0)
    c.loop-actor.invariant.found
