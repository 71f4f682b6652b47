use Rattle.std.proofs.Common.{rules, ℕ, ◌<◌, Bool, cond, slice_index, refl, sym, ap, ◌∙◌, arith, append_assoc, length-set}
use Rattle.strip_mask.specs.Iter.{rest_of}
use Rattle.strip_mask.specs.Set.{has}
use Rattle.strip_mask.proofs.ByMembers.{has-empty}
use Rattle.strip_mask.proofs.Turns.{turn_member, turns_all}
use Rattle.strip_arrivals.proofs.ByPlace.{each_written}
use Rattle.strip_mask.proofs.Lists.{zeros}
use Rattle.strip_arrivals.proofs.Sets.{actors_members}
use Rattle.strip_arrivals.proofs.crew.holds_at.Goals as goal

pub loop-place-init : goal.loop-place-init
loop-place-init c = record {
  long = refl;
  told = λ place. zeros 10 place ∙ sym (ap (λ (b : Bool). cond {A = ℕ} b (slice_index c.args.holds.now place) 0) (has-empty place));
  turns = ap rest_of c.into_iter-place-iterator.ensures.into_iter_gives ∙ c.iter-place-items.ensures.left;
}

pub bounds-holds-place : goal.bounds-holds-place
bounds-holds-place c = c.requires c.in-Some.place (turn_member c.args.places.0 c.in-Some.place c.loop-place.yielded (rest_of c.loop-place.place-iterator) (rest_of c.next.new.self) c.loop-place.invariant.turns c.in-Some.ensures.steps)

pub bounds-numbers-place : goal.bounds-numbers-place
bounds-numbers-place c = c.requires c.in-Some.place (turn_member c.args.places.0 c.in-Some.place c.loop-place.yielded (rest_of c.loop-place.place-iterator) (rest_of c.next.new.self) c.loop-place.invariant.turns c.in-Some.ensures.steps)

pub loop-place-preserved : goal.loop-place-preserved
loop-place-preserved c =
    let lt : c.in-Some.place < 10 = c.requires c.in-Some.place (turn_member c.args.places.0 c.in-Some.place c.loop-place.yielded (rest_of c.loop-place.place-iterator) (rest_of c.next.new.self) c.loop-place.invariant.turns c.in-Some.ensures.steps) in
    record {
      long = length-set c.loop-place.numbers c.in-Some.place _ ∙ c.loop-place.invariant.long;
      told = each_written c.loop-place.numbers c.loop-place.yielded c.in-Some.place (slice_index c.args.holds.now c.in-Some.place) (slice_index c.args.holds.now) (λ _. 0)
          (omega (arith, lt, c.loop-place.invariant.long)) c.loop-place.invariant.told refl;
      turns = rw append_assoc (rw (← c.in-Some.ensures.steps) c.loop-place.invariant.turns);
    }

pub returns : goal.returns
returns c = λ place. c.loop-place.invariant.told place ∙ ap (λ (s : ℕ). cond {A = ℕ} (has s place) (slice_index c.args.holds.now place) 0)
    (actors_members c.args.places.0 c.loop-place.yielded (turns_all c.args.places.0 c.loop-place.yielded (rest_of c.loop-place.place-iterator) c.loop-place.invariant.turns c.in-None.ensures.steps.0) (search rules))
