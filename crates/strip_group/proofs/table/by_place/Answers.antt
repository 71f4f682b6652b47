use Rattle.std.proofs.Common.{◌≡◌, ◌<◌, ◌∙◌, ap, append_assoc, arith, length, length-set, slice_index, sym, get_or-set_other}
use Rattle.std.proofs.lemmas.List.{length_push}
use Rattle.strip_mask.specs.Iter.{rest_of}
use Rattle.strip_mask.proofs.Sizes.{length-members}
use Rattle.strip_mask.proofs.Turns.{turn_member, turns_all}
use Rattle.strip_group.specs.Places.{actor_at}
use Rattle.strip_mask.proofs.Lists.{written}
use Rattle.strip_group.proofs.Places.{turn_at}
use Rattle.strip_group.proofs.table.by_place.Goals as goal

pub bounds-stays-actor : goal.bounds-stays-actor
bounds-stays-actor c =
    let known = c.requires.known c.in-Some.actor
    (turn_member c.args.group.0 c.in-Some.actor c.loop-actor.yielded (rest_of c.loop-actor.actor-iterator)
    (rest_of c.next.new.self) c.loop-actor.invariant.turns c.in-Some.ensures.steps) in
    omega (arith, known, c.requires.count)

pub bounds-holds-actor : goal.bounds-holds-actor
bounds-holds-actor c = c.requires.known c.in-Some.actor
    (turn_member c.args.group.0 c.in-Some.actor c.loop-actor.yielded (rest_of c.loop-actor.actor-iterator)
    (rest_of c.next.new.self) c.loop-actor.invariant.turns c.in-Some.ensures.steps)

pub bounds-stay_at-place : goal.bounds-stay_at-place
bounds-stay_at-place c =
    let turn = turn_at c.args.group.0 c.in-Some.actor c.loop-actor.yielded (rest_of c.loop-actor.actor-iterator)
    (rest_of c.next.new.self) c.loop-actor.invariant.turns c.in-Some.ensures.steps in
    omega (arith, turn.1, c.loop-actor.invariant.place, c.requires.few)

pub bounds-rate_at-place : goal.bounds-rate_at-place
bounds-rate_at-place c =
    let turn = turn_at c.args.group.0 c.in-Some.actor c.loop-actor.yielded (rest_of c.loop-actor.actor-iterator)
    (rest_of c.next.new.self) c.loop-actor.invariant.turns c.in-Some.ensures.steps in
    omega (arith, turn.1, c.loop-actor.invariant.place, c.requires.few)

pub loop-actor-preserved : goal.loop-actor-preserved
loop-actor-preserved c =
    let turn = turn_at c.args.group.0 c.in-Some.actor c.loop-actor.yielded (rest_of c.loop-actor.actor-iterator)
    (rest_of c.next.new.self) c.loop-actor.invariant.turns c.in-Some.ensures.steps in
    let stay_within : c.loop-actor.place < length c.loop-actor.stay_at = omega (arith, turn.1, c.loop-actor.invariant.place, c.requires.few, c.loop-actor.invariant.stay_long) in
    let rate_within : c.loop-actor.place < length c.loop-actor.rate_at = omega (arith, turn.1, c.loop-actor.invariant.place, c.requires.few, c.loop-actor.invariant.rate_long) in
    let actor : actor_at c.args.group.0 c.loop-actor.place ≡ c.in-Some.actor = ap (actor_at c.args.group.0) c.loop-actor.invariant.place ∙ turn.0 in
    record {
      stay_long = length-set c.loop-actor.stay_at c.loop-actor.place _ ∙ c.loop-actor.invariant.stay_long;
      rate_long = length-set c.loop-actor.rate_at c.loop-actor.place _ ∙ c.loop-actor.invariant.rate_long;
      place = omega (arith, c.loop-actor.invariant.place, length_push c.loop-actor.yielded c.in-Some.actor);
      stay = written c.loop-actor.stay_at c.loop-actor.place (slice_index c.args.stays.now c.in-Some.actor) (λ place. slice_index c.args.stays.now
          (actor_at c.args.group.0 place)) stay_within c.loop-actor.invariant.stay
          (ap (slice_index c.args.stays.now) (sym actor));
      all_stay = λ place le lt. get_or-set_other c.loop-actor.stay_at c.loop-actor.place place (slice_index c.args.stays.now c.in-Some.actor) 0 (λ same. omega (arith, le, same))
          ∙ c.loop-actor.invariant.all_stay place (omega (arith, le)) lt;
      rate = written c.loop-actor.rate_at c.loop-actor.place (slice_index c.args.holds.now c.in-Some.actor) (λ place. slice_index c.args.holds.now
          (actor_at c.args.group.0 place)) rate_within c.loop-actor.invariant.rate
          (ap (slice_index c.args.holds.now) (sym actor));
      no_rate = λ place le lt. get_or-set_other c.loop-actor.rate_at c.loop-actor.place place (slice_index c.args.holds.now c.in-Some.actor) 0 (λ same. omega (arith, le, same))
          ∙ c.loop-actor.invariant.no_rate place (omega (arith, le)) lt;
      turns = rw append_assoc (rw (← c.in-Some.ensures.steps) c.loop-actor.invariant.turns);
    }

pub returns-clause-stays : goal.returns-clause-stays
returns-clause-stays c = λ place lt. c.loop-actor.invariant.stay place (omega (
  arith,
  lt,
  c.loop-actor.invariant.place,
  ap length (turns_all c.args.group.0 c.loop-actor.yielded (rest_of c.loop-actor.actor-iterator) c.loop-actor.invariant.turns c.in-None.ensures.steps.0),
  length-members c.args.group.0,
))

pub returns-clause-rates : goal.returns-clause-rates
returns-clause-rates c = λ place lt. c.loop-actor.invariant.rate place (omega (
  arith,
  lt,
  c.loop-actor.invariant.place,
  ap length (turns_all c.args.group.0 c.loop-actor.yielded (rest_of c.loop-actor.actor-iterator) c.loop-actor.invariant.turns c.in-None.ensures.steps.0),
  length-members c.args.group.0,
))

pub returns-clause-all_stay : goal.returns-clause-all_stay
returns-clause-all_stay c = λ place le lt. c.loop-actor.invariant.all_stay place (omega (
  arith,
  le,
  c.loop-actor.invariant.place,
  ap length (turns_all c.args.group.0 c.loop-actor.yielded (rest_of c.loop-actor.actor-iterator) c.loop-actor.invariant.turns c.in-None.ensures.steps.0),
  length-members c.args.group.0,
)) lt

pub returns-clause-no_rate : goal.returns-clause-no_rate
returns-clause-no_rate c = λ place le lt. c.loop-actor.invariant.no_rate place (omega (
  arith,
  le,
  c.loop-actor.invariant.place,
  ap length (turns_all c.args.group.0 c.loop-actor.yielded (rest_of c.loop-actor.actor-iterator) c.loop-actor.invariant.turns c.in-None.ensures.steps.0),
  length-members c.args.group.0,
)) lt
