use Rattle.std.proofs.Common.{◌≡◌, ℕ, ◌&&◌, length, slice_index, refl, sym, ap, ◌∙◌, subst, inl, inr, arith, append_assoc}
use Rattle.std.proofs.lemmas.Bool.{cases_eq}
use Rattle.std.proofs.lemmas.List.{length_push}
use Rattle.strip_mask.specs.Iter.{rest_of}
use Rattle.strip_mask.specs.Set.{has}
use Rattle.strip_mask.proofs.ByMembers.{has-meet, empty_has}
use Rattle.strip_mask.proofs.Sizes.{length-members}
use Rattle.strip_mask.proofs.Turns.{turn_member, turns_all}
use Rattle.strip_group.specs.Places.{actor_at}
use Rattle.strip_arrivals.proofs.ByPlace.{cast_more}
use Rattle.strip_mask.proofs.Lists.{zeros}
use Rattle.strip_sets.proofs.Sets.{lies_small}
use Rattle.strip_group.proofs.Places.{turn_at}
use Rattle.strip_arrivals.proofs.table.ArrivalsTable.casts_of.Goals as goal
use Rattle.std.proofs.Math.Bool.{and-true}

pub loop-actor-init : goal.loop-actor-init
loop-actor-init c = record {
  long = refl;
  place = refl;
  told = λ scene place there lt. absurd (omega (arith, lt));
  lies = λ scene i there. absurd (empty_has i (ap (λ (s : ℕ). has s i) (sym (zeros 64 scene)) ∙ there));
  turns = ap rest_of c.into_iter-actor-iterator.ensures.into_iter_gives ∙ c.iter-actor-items.ensures.left;
}

pub plays-requires : goal.plays-requires
plays-requires c = c.requires.known c.in-Some.actor (turn_member c.args.group.0 c.in-Some.actor c.loop-actor.yielded (rest_of c.loop-actor.actor-iterator) (rest_of c.next.new.self) c.loop-actor.invariant.turns c.in-Some.ensures.steps)

pub add_place-requires-clause-place : goal.add_place-requires-clause-place
add_place-requires-clause-place c =
    let turn = turn_at c.args.group.0 c.in-Some.actor c.loop-actor.yielded (rest_of c.loop-actor.actor-iterator) (rest_of c.next.new.self) c.loop-actor.invariant.turns c.in-Some.ensures.steps in
    omega (arith, turn.1, c.loop-actor.invariant.place, c.requires.few)

pub add_place-requires-clause-small : goal.add_place-requires-clause-small
add_place-requires-clause-small c = λ scene.
    let turn = turn_at c.args.group.0 c.in-Some.actor c.loop-actor.yielded (rest_of c.loop-actor.actor-iterator) (rest_of c.next.new.self) c.loop-actor.invariant.turns c.in-Some.ensures.steps in
    lies_small 10 (slice_index c.loop-actor.casts scene) (λ i there. (let lt = c.loop-actor.invariant.lies scene i there in omega (arith, lt, turn.1, c.loop-actor.invariant.place, c.requires.few)))

pub loop-actor-preserved : goal.loop-actor-preserved
loop-actor-preserved c =
    let turn = turn_at c.args.group.0 c.in-Some.actor c.loop-actor.yielded (rest_of c.loop-actor.actor-iterator) (rest_of c.next.new.self) c.loop-actor.invariant.turns c.in-Some.ensures.steps in
    let place : ℕ = c.loop-actor.place in
    let actor : actor_at c.args.group.0 place ≡ c.in-Some.actor = ap (actor_at c.args.group.0) c.loop-actor.invariant.place ∙ turn.0 in
    let more = λ (scene : ℕ). cast_more (slice_index c.loop-actor.casts scene) (slice_index c.add_place.new.casts scene) place (has c.meet.result.0 scene)
    (c.loop-actor.invariant.lies scene) (c.add_place.ensures.with scene) (c.add_place.ensures.same scene) in
    record {
      long = c.add_place.array_long;
      place = omega (arith, c.loop-actor.invariant.place, length_push c.loop-actor.yielded c.in-Some.actor);
      told = λ scene i there lt. elim (cases_eq i place) [
        | inl is ↦ subst (λ (k : ℕ). has (slice_index c.add_place.new.casts scene) k ≡ has (slice_index c.args.self.now.casts scene) (actor_at c.args.group.0 k)) (sym is)
            ((more scene).0 ∙ ap (λ (s : ℕ). has s scene) c.meet.ensures ∙ has-meet c.plays.result.0 c.args.set.0 scene
            ∙ (λ k. c.plays.ensures scene k && there k) ∙ and-true (has (slice_index c.args.self.now.casts scene) c.in-Some.actor)
            ∙ ap (has (slice_index c.args.self.now.casts scene)) (sym actor))
        | inr other ↦ (more scene).1 i other ∙ c.loop-actor.invariant.told scene i there (omega (arith, lt, other))
      ];
      lies = λ scene. (more scene).2;
      turns = rw append_assoc (rw (← c.in-Some.ensures.steps) c.loop-actor.invariant.turns);
    }

pub returns-clause-casts : goal.returns-clause-casts
returns-clause-casts c = λ scene place there lt. c.loop-actor.invariant.told scene place there (omega (
  arith,
  lt,
  c.loop-actor.invariant.place,
  ap length (turns_all c.args.group.0 c.loop-actor.yielded (rest_of c.loop-actor.actor-iterator) c.loop-actor.invariant.turns c.in-None.ensures.steps.0),
  length-members c.args.group.0,
))

pub returns-clause-lies : goal.returns-clause-lies
returns-clause-lies c = λ scene i there. (let lt = c.loop-actor.invariant.lies scene i there in omega (
  arith,
  lt,
  c.loop-actor.invariant.place,
  ap length (turns_all c.args.group.0 c.loop-actor.yielded (rest_of c.loop-actor.actor-iterator) c.loop-actor.invariant.turns c.in-None.ensures.steps.0),
  length-members c.args.group.0,
))
