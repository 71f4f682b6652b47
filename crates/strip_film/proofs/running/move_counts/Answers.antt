use Rattle.std.proofs.Common.{◌≡◌, ℕ, ◌+◌, ◌<◌, ◌≤◌, slice_index, sym, ap, ◌∙◌, arith, append_assoc}
use Rattle.std.proofs.Math.ListN.{length-set}
use Rattle.strip_mask.specs.Set.{has}
use Rattle.strip_mask.specs.Iter.{rest_of}
use Rattle.strip_mask.proofs.Below.{is_set_below}
use Rattle.strip_mask.proofs.Turns.{turn_member, turn_below}
use Rattle.strip_model.proofs.Counts.{count}
use Rattle.strip_mask.proofs.Sizes.{mark}
use Rattle.strip_film.proofs.Turned.{count_once, down_turn, up_turn, some_to_move, room_to_move}
use Rattle.strip_film.proofs.running.move_counts.Goals as goal

pub loop-actor-init : goal.loop-actor-init
loop-actor-init c =
    let once : (j : ℕ) → count j (rest_of c.into_iter-actor-iterator.result) ≡ mark (has c.args.cast.0 j)
    = λ j. rw (c.into_iter-actor-iterator.ensures.into_iter_gives, c.iter-actor-items.ensures.left)
    (count_once c.args.cast.0 j (is_set_below 64 c.args.cast.0 (omega arith) c.requires.known)) in
    record {
      long_from = c.told-from;
      long_to = c.told-to;
      turns = rw c.into_iter-actor-iterator.ensures.into_iter_gives c.iter-actor-items.ensures.left;
      from = λ j. ap (λ (n : ℕ). slice_index c.args.from.now j + n) (sym (once j));
      to = λ j. ap (λ (n : ℕ). slice_index c.args.to.now j + n) (once j);
    }

pub bounds-from-actor : goal.bounds-from-actor
bounds-from-actor c =
    turn_below c.args.cast.0 c.in-Some.actor c.loop-actor.yielded (rest_of c.loop-actor.actor-iterator) (rest_of c.next.new.self) c.loop-actor.invariant.turns c.in-Some.ensures.steps

pub overflow_sub-from : goal.overflow_sub-from
overflow_sub-from c =
    let member = turn_member c.args.cast.0 c.in-Some.actor c.loop-actor.yielded (rest_of c.loop-actor.actor-iterator) (rest_of c.next.new.self) c.loop-actor.invariant.turns c.in-Some.ensures.steps in
    some_to_move c.loop-actor.from c.args.from.now c.args.cast.0 c.in-Some.actor (rest_of c.loop-actor.actor-iterator) (rest_of c.next.new.self)
    c.in-Some.ensures.steps member (c.requires.some c.in-Some.actor member) c.loop-actor.invariant.from

pub overflow_add-to : goal.overflow_add-to
overflow_add-to c =
    let member = turn_member c.args.cast.0 c.in-Some.actor c.loop-actor.yielded (rest_of c.loop-actor.actor-iterator) (rest_of c.next.new.self) c.loop-actor.invariant.turns c.in-Some.ensures.steps in
    let few : slice_index c.loop-actor.to c.in-Some.actor ≤ 64 = room_to_move c.loop-actor.to c.args.to.now c.args.cast.0 c.in-Some.actor
    (rest_of c.loop-actor.actor-iterator) (rest_of c.next.new.self) c.in-Some.ensures.steps member (c.requires.room c.in-Some.actor member) c.loop-actor.invariant.to in
    omega (arith, few)

pub loop-actor-preserved : goal.loop-actor-preserved
loop-actor-preserved c =
    let i = c.in-Some.actor in
    let below : i < 64 = turn_below c.args.cast.0 i c.loop-actor.yielded (rest_of c.loop-actor.actor-iterator) (rest_of c.next.new.self) c.loop-actor.invariant.turns c.in-Some.ensures.steps in
    let member = turn_member c.args.cast.0 i c.loop-actor.yielded (rest_of c.loop-actor.actor-iterator) (rest_of c.next.new.self) c.loop-actor.invariant.turns c.in-Some.ensures.steps in
    let some : 0 < slice_index c.loop-actor.from i = some_to_move c.loop-actor.from c.args.from.now c.args.cast.0 i (rest_of c.loop-actor.actor-iterator) (rest_of c.next.new.self)
    c.in-Some.ensures.steps member (c.requires.some i member) c.loop-actor.invariant.from in
    record {
      long_from = length-set {A = ℕ} c.loop-actor.from i _ ∙ c.loop-actor.invariant.long_from;
      long_to = length-set {A = ℕ} c.loop-actor.to i _ ∙ c.loop-actor.invariant.long_to;
      turns = rw append_assoc (rw (← c.in-Some.ensures.steps) c.loop-actor.invariant.turns);
      from = down_turn c.loop-actor.from c.args.from.now c.args.cast.0 i _ (rest_of c.loop-actor.actor-iterator) (rest_of c.next.new.self)
          c.in-Some.ensures.steps (omega (arith, below, c.loop-actor.invariant.long_from)) (omega (arith, some)) c.loop-actor.invariant.from;
      to = up_turn c.loop-actor.to c.args.to.now c.args.cast.0 i _ (rest_of c.loop-actor.actor-iterator) (rest_of c.next.new.self)
          c.in-Some.ensures.steps (omega (arith, below, c.loop-actor.invariant.long_to)) (omega arith) c.loop-actor.invariant.to;
    }
