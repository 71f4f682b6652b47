use Rattle.std.proofs.Common.{◌≡◌, ◌<◌, length, slice_index, refl, sym, ap, ◌∙◌, arith, append_assoc, length-set, get_or-set_other}
use Rattle.std.proofs.lemmas.List.{length_push}
use Rattle.strip_mask.specs.Iter.{rest_of}
use Rattle.strip_mask.proofs.Sizes.{length-members}
use Rattle.strip_mask.proofs.Turns.{turn_member, turns_all}
use Rattle.strip_group.specs.Places.{actor_at}
use Rattle.strip_mask.proofs.Lists.{zeros, written}
use Rattle.strip_group.proofs.Places.{turn_at}
use Rattle.strip_arrivals.proofs.table.ArrivalsTable.holds_of.Goals as goal

pub loop-actor-init : goal.loop-actor-init
loop-actor-init c = record {
  long = refl;
  place = refl;
  told = λ place lt. absurd (omega (arith, lt));
  none = λ place _. zeros 10 place;
  turns = ap rest_of c.into_iter-actor-iterator.ensures.into_iter_gives ∙ c.iter-actor-items.ensures.left;
}

pub hold-requires : goal.hold-requires
hold-requires c = c.requires.known c.in-Some.actor (turn_member c.args.group.0 c.in-Some.actor c.loop-actor.yielded (rest_of c.loop-actor.actor-iterator) (rest_of c.next.new.self) c.loop-actor.invariant.turns c.in-Some.ensures.steps)

pub bounds-holds-place : goal.bounds-holds-place
bounds-holds-place c =
    let turn = turn_at c.args.group.0 c.in-Some.actor c.loop-actor.yielded (rest_of c.loop-actor.actor-iterator) (rest_of c.next.new.self) c.loop-actor.invariant.turns c.in-Some.ensures.steps in
    omega (arith, turn.1, c.loop-actor.invariant.place, c.requires.few)

pub loop-actor-preserved : goal.loop-actor-preserved
loop-actor-preserved c =
    let turn = turn_at c.args.group.0 c.in-Some.actor c.loop-actor.yielded (rest_of c.loop-actor.actor-iterator) (rest_of c.next.new.self) c.loop-actor.invariant.turns c.in-Some.ensures.steps in
    let within : c.loop-actor.place < length c.loop-actor.holds = omega (arith, turn.1, c.loop-actor.invariant.place, c.requires.few, c.loop-actor.invariant.long) in
    let actor : actor_at c.args.group.0 c.loop-actor.place ≡ c.in-Some.actor = ap (actor_at c.args.group.0) c.loop-actor.invariant.place ∙ turn.0 in
    record {
      long = length-set c.loop-actor.holds c.loop-actor.place _ ∙ c.loop-actor.invariant.long;
      place = omega (arith, c.loop-actor.invariant.place, length_push c.loop-actor.yielded c.in-Some.actor);
      told = written c.loop-actor.holds c.loop-actor.place c.hold.result (λ place. slice_index c.args.self.now.holds (actor_at c.args.group.0 place)) within
          c.loop-actor.invariant.told (c.hold.ensures.same ∙ ap (slice_index c.args.self.now.holds) (sym actor));
      none = λ place past. get_or-set_other c.loop-actor.holds c.loop-actor.place place c.hold.result 0 (λ is. omega (arith, is, past))
          ∙ c.loop-actor.invariant.none place (omega (arith, past));
      turns = rw append_assoc (rw (← c.in-Some.ensures.steps) c.loop-actor.invariant.turns);
    }

pub returns-clause-holds : goal.returns-clause-holds
returns-clause-holds c = λ place lt. c.loop-actor.invariant.told place (omega (
  arith,
  lt,
  c.loop-actor.invariant.place,
  ap length (turns_all c.args.group.0 c.loop-actor.yielded (rest_of c.loop-actor.actor-iterator) c.loop-actor.invariant.turns c.in-None.ensures.steps.0),
  length-members c.args.group.0,
))

pub returns-clause-none : goal.returns-clause-none
returns-clause-none c = λ place past. c.loop-actor.invariant.none place (omega (
  arith,
  past,
  c.loop-actor.invariant.place,
  ap length (turns_all c.args.group.0 c.loop-actor.yielded (rest_of c.loop-actor.actor-iterator) c.loop-actor.invariant.turns c.in-None.ensures.steps.0),
  length-members c.args.group.0,
))
