-- A turn of the reduction: which step it takes, and what that keeps.
use Rattle.std.proofs.Common.{◌≡◌, ◌↔◌, ◌⊎◌, ℕ, ◌+◌, ◌<◌, ◌≤◌, true, List, length, Option, None, Some, refl, ap, subst, ◌∙◌, inl, inr, arith}
use Rattle.std.specs.Option.{option_map, option_or, unwrap_or}
use Rattle.std.proofs.lemmas.List.{length-map}
use Rattle.std.proofs.lemmas.List.Edits.{length-remove}
use Rattle.strip_mask.specs.Set.{closed_up}
use Rattle.strip_model.specs.Order.{IsKeptOrder}
use Rattle.strip_model.specs.Pay.{IsOptimum, pay_of}
use Rattle.strip_reduce.specs.State.{State, IsState}
use Rattle.strip_reduce.specs.Steps.{actors_joined, can_drop, can_join_actors, can_join_scenes, dropped, scenes_joined}
use Rattle.strip_reduce.specs.Reduction.{least_below, least_two, next}
use Rattle.strip_reduce.specs.Law.{KeepsOptimum}
use Rattle.strip_reduce.proofs.Least.{AreLeastTwo, IsLeastBelow, least_told, least_two_told}
use Rattle.strip_reduce.proofs.StepKeeps.{IsBackFrom, StepKeeps}
use Rattle.strip_reduce.proofs.DropActor.{drop_keeps}
use Rattle.strip_reduce.proofs.JoinScenes.{scenes_join_keeps}
use Rattle.strip_reduce.proofs.JoinActors.{actors_join_keeps}
use Rattle.strip_reduce.proofs.Limits.{length-summed, limits-actors_joined, limits-dropped, limits-scenes_joined}

-- the first of three that there is
picked : {A B C D : Type 0} (f : A → D) (g : B → D) (h : C → D) (first : Option A) (second : Option B) (third : Option C) (y : D)
    → option_or (option_map f first) (option_or (option_map g second) (option_map h third)) ≡ Some y
    → ((x : A) × (first ≡ Some x) × (f x ≡ y)) ⊎ (((x : B) × (second ≡ Some x) × (g x ≡ y)) ⊎ ((x : C) × (third ≡ Some x) × (h x ≡ y)))
picked {D = D} f g h (Some x) second third y is = inl (x, refl, ap (λ (o : Option D). unwrap_or o (f x)) is)
picked {D = D} f g h None (Some x) third y is = inr (inl (x, refl, ap (λ (o : Option D). unwrap_or o (g x)) is))
picked {D = D} f g h None None (Some x) y is = inr (inr (x, refl, ap (λ (o : Option D). unwrap_or o (h x)) is))
picked f g h None None None y is = absurd (cc)

-- what the step of a turn is
pub data Turn (state : State) : State → Type 0 where
  Drops : (actor : ℕ) → actor < length state.film.rates → can_drop state.film actor ≡ true → Turn state (dropped state actor)
  JoinsScenes : (a b : ℕ) → a < b → b < length state.film.casts → can_join_scenes state.film a b ≡ true → Turn state (scenes_joined state a b)
  JoinsActors : (a b : ℕ) → a < b → b < length state.film.rates → can_join_actors state.film a b ≡ true → Turn state (actors_joined state a b)

pub turn_of : (before after : State) → next before ≡ Some after → Turn before after
turn_of before after is =
    elim (picked (dropped before) (λ two. scenes_joined before two.0 two.1) (λ two. actors_joined before two.0 two.1)
    (least_below (length before.film.rates) (can_drop before.film)) (least_two (length before.film.casts) (can_join_scenes before.film))
    (least_two (length before.film.rates) (can_join_actors before.film)) after is) [
      | inl drop ↦ (let least : IsLeastBelow (length before.film.rates) (can_drop before.film) drop.0 = least_told (length before.film.rates) (can_drop before.film) drop.0 drop.1 in
          subst (Turn before) drop.2 (Drops drop.0 least.below least.passes))
      | inr join ↦ elim join [
        | inl scenes ↦ (let least : AreLeastTwo (length before.film.casts) (can_join_scenes before.film) scenes.0.0 scenes.0.1
            = least_two_told (length before.film.casts) (can_join_scenes before.film) scenes.0.0 scenes.0.1 scenes.1 in
            subst (Turn before) scenes.2 (JoinsScenes scenes.0.0 scenes.0.1 least.rise least.below least.pass))
        | inr actors ↦ (let least : AreLeastTwo (length before.film.rates) (can_join_actors before.film) actors.0.0 actors.0.1
            = least_two_told (length before.film.rates) (can_join_actors before.film) actors.0.0 actors.0.1 actors.1 in
            subst (Turn before) actors.2 (JoinsActors actors.0.0 actors.0.1 least.rise least.below least.pass))
      ]
    ]

pub turn_keeps : (before after : State) → IsState before → Turn before after → StepKeeps before after
turn_keeps before _ is (Drops actor within can) = drop_keeps before actor within is can
turn_keeps before _ is (JoinsScenes a b lt within can) = scenes_join_keeps before a b lt within is can
turn_keeps before _ is (JoinsActors a b lt within can) = actors_join_keeps before a b lt within is can

pub turn_limits : (before after : State) → IsState before → Turn before after → IsState after
turn_limits before _ is (Drops actor within can) = limits-dropped before actor within is
turn_limits before _ is (JoinsScenes a b lt within can) = limits-scenes_joined before a b lt within is can
turn_limits before _ is (JoinsActors a b lt within can) = limits-actors_joined before a b lt within is

-- how many scenes and actors there are
abbrev pub size : State → ℕ
size state = length state.film.casts + length state.film.rates

pub turn_lessens : (before after : State) → Turn before after → size after + 1 ≡ size before
turn_lessens before _ (Drops actor within can) =
    omega (arith, length-map before.film.casts (λ cast. closed_up cast actor), length-remove before.film.rates actor within)
turn_lessens before _ (JoinsScenes a b lt within can) = omega (arith, length-remove before.film.casts b within)
turn_lessens before _ (JoinsActors a b lt within can) =
    omega (arith, length-map before.film.casts (λ cast. closed_up cast b), length-summed before.film.rates a b within)

-- what is kept order by order keeps the optimum
pub optimum_falls : (before after : State) (keeps : StepKeeps before after) (cost : ℕ)
    → IsOptimum after.film cost ↔ IsOptimum before.film (cost + keeps.fell)
optimum_falls before after keeps cost = (there cost, back cost)
  where
    kept_back : (order : List ℕ) (is : IsKeptOrder after.film order) → IsKeptOrder before.film (keeps.back order is.is_order).earlier
    kept_back order is = record { is_order = (keeps.back order is.is_order).is_order; keeps = (keeps.back order is.is_order).kept.1 is.keeps }

    there : (cost : ℕ) → IsOptimum after.film cost → IsOptimum before.film (cost + keeps.fell)
    there cost best = record {
      attained =
          let order : List ℕ = best.attained.0 in
          let from : IsBackFrom before after keeps.fell best.attained.0 = keeps.back best.attained.0 best.attained.1.is_order in
          (from.earlier, kept_back best.attained.0 best.attained.1, from.pay ∙ ap (λ (pay : ℕ). pay + keeps.fell) best.attained.2);
      least = λ order is.
          let later : (later : List ℕ) × IsKeptOrder after.film later × (pay_of after.film later + keeps.fell ≤ pay_of before.film order) = keeps.forth order is in
          let least : cost ≤ pay_of after.film later.0 = best.least later.0 later.1 in
          omega (arith, least, later.2);
    }

    back : (cost : ℕ) → IsOptimum before.film (cost + keeps.fell) → IsOptimum after.film cost
    back cost best = record {
      attained =
          let later : (later : List ℕ) × IsKeptOrder after.film later × (pay_of after.film later + keeps.fell ≤ pay_of before.film best.attained.0) = keeps.forth best.attained.0 best.attained.1 in
          let dearer : cost ≤ pay_of after.film later.0 = at_least cost best later.0 later.1 in
          (later.0, later.1, omega (arith, later.2, best.attained.2, dearer));
      least = at_least cost best;
    }
      where
        at_least : (cost : ℕ) → IsOptimum before.film (cost + keeps.fell) → (order : List ℕ) → IsKeptOrder after.film order → cost ≤ pay_of after.film order
        at_least cost best order is =
            let from : IsBackFrom before after keeps.fell order = keeps.back order is.is_order in
            let least : cost + keeps.fell ≤ pay_of before.film from.earlier = best.least from.earlier (kept_back order is) in
            omega (arith, least, from.pay)

pub optimum_kept : (before after : State) → StepKeeps before after → KeepsOptimum before after
optimum_kept before after keeps = record { fell = keeps.fell; apart = keeps.apart; optimum = optimum_falls before after keeps }
