use Rattle.std.proofs.Common.{rules, ◌≡◌, ℕ, ◌^◌, ◌<◌, Bool, cond, length, slice_index, sym, ap, ◌∙◌, inl, inr, arith, append_assoc, length-set, set, get_or-set_other, get_or-set_same}
use Rattle.std.proofs.lemmas.Bool.{cases_eq}
use Rattle.strip_mask.specs.Iter.{rest_of}
use Rattle.strip_mask.specs.Set.{has, with}
use Rattle.strip_mask.proofs.ByMembers.{has-empty}
use Rattle.strip_mask.proofs.Turns.{turn_below, turns_all}
use Rattle.strip_arrivals.specs.Arrivals.{actors_of}
use Rattle.strip_arrivals.proofs.ByPlace.{each_written, with_chosen}
use Rattle.strip_sets.proofs.Sets.{with_small}
use Rattle.strip_arrivals.proofs.Sets.{actors_members}
use Rattle.strip_arrivals.proofs.crew.add_place.Goals as goal

pub loop-scene-init : goal.loop-scene-init
loop-scene-init c = record {
  long = c.told-casts;
  small = c.requires.small;
  told = λ scene. sym (ap (λ (b : Bool). cond {A = ℕ} b (with (slice_index c.args.casts.now scene) c.args.place) (slice_index c.args.casts.now scene)) (has-empty scene));
  turns = ap rest_of c.into_iter-scene-iterator.ensures.into_iter_gives ∙ c.iter-scene-items.ensures.left;
}

pub bounds-casts-scene : goal.bounds-casts-scene
bounds-casts-scene c = turn_below c.args.scenes.0 c.in-Some.scene c.loop-scene.yielded (rest_of c.loop-scene.scene-iterator) (rest_of c.next.new.self) c.loop-scene.invariant.turns c.in-Some.ensures.steps

pub overflow_cast-casts : goal.overflow_cast-casts
overflow_cast-casts c =
    let small : with (slice_index c.loop-scene.casts c.in-Some.scene) c.args.place < 2 ^ 10
    = with_small 10 (slice_index c.loop-scene.casts c.in-Some.scene) c.args.place (c.loop-scene.invariant.small c.in-Some.scene) c.requires.place in
    record { fits = omega (arith, c.with.ensures, small) }

pub bounds-casts-scene-in-loop-scene : goal.bounds-casts-scene-in-loop-scene
bounds-casts-scene-in-loop-scene c = turn_below c.args.scenes.0 c.in-Some.scene c.loop-scene.yielded (rest_of c.loop-scene.scene-iterator) (rest_of c.next.new.self) c.loop-scene.invariant.turns c.in-Some.ensures.steps

pub loop-scene-preserved : goal.loop-scene-preserved
loop-scene-preserved c =
    let scene : ℕ = c.in-Some.scene in
    let place : ℕ = c.args.place in
    let before : ℕ = slice_index c.args.casts.now scene in
    let lt : scene < 64 = turn_below c.args.scenes.0 scene c.loop-scene.yielded (rest_of c.loop-scene.scene-iterator) (rest_of c.next.new.self) c.loop-scene.invariant.turns c.in-Some.ensures.steps in
    let within : scene < length c.loop-scene.casts = omega (arith, lt, c.loop-scene.invariant.long) in
    let small : with (slice_index c.loop-scene.casts scene) place < 2 ^ 10
    = with_small 10 (slice_index c.loop-scene.casts scene) place (c.loop-scene.invariant.small scene) c.requires.place in
    let is : c.with.result.0 ≡ with before place = c.with.ensures ∙ ap (λ (s : ℕ). with s place) (c.loop-scene.invariant.told scene)
    ∙ with_chosen (has (actors_of c.loop-scene.yielded) scene) before place in
    record {
      long = length-set c.loop-scene.casts scene _ ∙ c.loop-scene.invariant.long;
      small = λ i. elim (cases_eq i scene) [
        | inl here ↦ (let same : slice_index (set c.loop-scene.casts scene c.with.result.0) i ≡ c.with.result.0
            = ap (slice_index (set c.loop-scene.casts scene c.with.result.0)) here ∙ get_or-set_same c.loop-scene.casts scene c.with.result.0 0 within in
            omega (arith, same, c.with.ensures, small))
        | inr other ↦ (let same : slice_index (set c.loop-scene.casts scene c.with.result.0) i ≡ slice_index c.loop-scene.casts i
            = get_or-set_other c.loop-scene.casts scene i c.with.result.0 0 other in omega (arith, same, c.loop-scene.invariant.small i))
      ];
      told = each_written c.loop-scene.casts c.loop-scene.yielded scene c.with.result.0 (λ i. with (slice_index c.args.casts.now i) place) (slice_index c.args.casts.now) within c.loop-scene.invariant.told is;
      turns = rw append_assoc (rw (← c.in-Some.ensures.steps) c.loop-scene.invariant.turns);
    }

pub returns-clause-with : goal.returns-clause-with
returns-clause-with c = λ scene there.
    let all = actors_members c.args.scenes.0 c.loop-scene.yielded (turns_all c.args.scenes.0 c.loop-scene.yielded (rest_of c.loop-scene.scene-iterator) c.loop-scene.invariant.turns c.in-None.ensures.steps.0) (search rules) in
    c.loop-scene.invariant.told scene ∙ ap (λ (b : Bool). cond {A = ℕ} b (with (slice_index c.args.casts.now scene) c.args.place) (slice_index c.args.casts.now scene)) (ap (λ (s : ℕ). has s scene) all ∙ there)

pub returns-clause-same : goal.returns-clause-same
returns-clause-same c = λ scene missing.
    let all = actors_members c.args.scenes.0 c.loop-scene.yielded (turns_all c.args.scenes.0 c.loop-scene.yielded (rest_of c.loop-scene.scene-iterator) c.loop-scene.invariant.turns c.in-None.ensures.steps.0) (search rules) in
    c.loop-scene.invariant.told scene ∙ ap (λ (b : Bool). cond {A = ℕ} b (with (slice_index c.args.casts.now scene) c.args.place) (slice_index c.args.casts.now scene)) (ap (λ (s : ℕ). has s scene) all ∙ missing)
