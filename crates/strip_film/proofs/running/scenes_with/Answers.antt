use Rattle.std.proofs.Common.{◌≡◌, inl, inr, sym, ap, ◌∙◌, arith, append_assoc, count_by, List, ℕ, slice_index}
use Rattle.std.proofs.lemmas.Bool.{cases_Bool}
use Rattle.strip_mask.specs.Set.{has}
use Rattle.strip_mask.specs.Iter.{rest_of}
use Rattle.strip_mask.proofs.Turns.{turn_member, turns_all}
use Rattle.strip_model.specs.Pay.{works}
use Rattle.strip_mask.proofs.Sizes.{mark}
use Rattle.strip_film.proofs.Turned.{count-push, turn_count}
use Rattle.strip_film.proofs.running.scenes_with.Goals as goal

pub bounds-casts-scene : goal.bounds-casts-scene
bounds-casts-scene c =
    rw c.casts-casts.ensures (c.requires.lies c.in-Some.scene
    (turn_member c.args.q.0 c.in-Some.scene c.loop-scene.yielded (rest_of c.loop-scene.scene-iterator) (rest_of c.next.new.self) c.loop-scene.invariant.turns c.in-Some.ensures.steps))

works_in : (c : goal.After-has) → c.has.result ≡ works c.args.film.now c.args.actor c.in-Some.scene
works_in c = c.has.ensures ∙ ap (λ (casts : List ℕ). has (slice_index casts c.in-Some.scene) c.args.actor) c.casts-casts.ensures

pub overflow_add-count : goal.overflow_add-count
overflow_add-count c =
    let few = turn_count (works c.args.film.now c.args.actor) c.args.q.0 c.in-Some.scene c.loop-scene.yielded (rest_of c.loop-scene.scene-iterator) (rest_of c.next.new.self)
    c.loop-scene.invariant.turns c.in-Some.ensures.steps in
    elim (cases_Bool c.has.result) [
      | inl passes ↦ rw passes (omega (arith, few, c.loop-scene.invariant.count))
      | inr fails ↦ rw fails (omega (arith, few, c.loop-scene.invariant.count))
    ]

pub loop-scene-preserved : goal.loop-scene-preserved
loop-scene-preserved c =
    let more = count-push (works c.args.film.now c.args.actor) c.loop-scene.yielded c.in-Some.scene in
    record {
      count = elim (cases_Bool c.has.result) [
        | inl passes ↦ rw passes (let one : mark (works c.args.film.now c.args.actor c.in-Some.scene) ≡ 1 = ap mark (sym (works_in c) ∙ passes) in
            omega (arith, more, one, c.loop-scene.invariant.count))
        | inr fails ↦ rw fails (let none : mark (works c.args.film.now c.args.actor c.in-Some.scene) ≡ 0 = ap mark (sym (works_in c) ∙ fails) in
            omega (arith, more, none, c.loop-scene.invariant.count))
      ];
      turns = rw append_assoc (rw (← c.in-Some.ensures.steps) c.loop-scene.invariant.turns);
    }

pub returns : goal.returns
returns c = c.loop-scene.invariant.count
    ∙ ap (count_by (works c.args.film.now c.args.actor)) (turns_all c.args.q.0 c.loop-scene.yielded (rest_of c.loop-scene.scene-iterator) c.loop-scene.invariant.turns c.in-None.ensures.steps.0)
