-- Two actors are joined.
use Rattle.std.proofs.Common.{◌≡◌, ◌≢◌, ℕ, zero, suc, ◌+◌, ◌*◌, ◌<◌, Bool, true, false, cond, List, [], ◌∷◌, length, refl, sym, ap, ◌∙◌, arith, slice_index, sum_by}
use Rattle.std.specs.Bool.{beq}
use Rattle.std.specs.List.{remove, list_all}
use Rattle.std.proofs.lemmas.List.{length-map, length-set}
use Rattle.std.proofs.lemmas.Bool.{and_parts}
use Rattle.std.proofs.lemmas.List.Sums.{sum_by-cons}
use Rattle.std.proofs.lemmas.List.Edits.{length-remove}
use Rattle.strip_mask.specs.Set.{has, behind_gap, closed_up}
use Rattle.strip_mask.specs.Sums.{sum_below}
use Rattle.strip_mask.proofs.ByMembers.{has-empty}
use Rattle.strip_mask.proofs.Sums.{sum_below-point}
use Rattle.strip_model.specs.Film.{FilmData}
use Rattle.strip_model.specs.Pay.{works, from_first, to_last, span, day_pay, pay_of}
use Rattle.strip_reduce.specs.State.{State, IsState}
use Rattle.strip_reduce.specs.Steps.{can_join_actors, casts_without, actors_joined, summed}
use Rattle.strip_reduce.proofs.Places.{gap_below, joined-elsewhere, joined-here}
use Rattle.strip_reduce.proofs.Columns.{has-casts_without, sum_below-gap}
use Rattle.strip_reduce.proofs.DropActor.{actor_pay, same_pay}
use Rattle.strip_reduce.proofs.StepKeeps.{StepKeeps}

-- two actors who work in the same scenes
pub same_column : (casts : List ℕ) (a b scene : ℕ) → list_all (λ cast. beq (has cast a) (has cast b)) casts ≡ true
    → has (slice_index casts scene) a ≡ has (slice_index casts scene) b
same_column [] a b scene all = has-empty a ∙ sym (has-empty b)
same_column (cast ∷ casts) a b zero all = equal (has cast a) (has cast b) (and_parts (beq (has cast a) (has cast b)) (list_all (λ cast. beq (has cast a) (has cast b)) casts) all).0
  where
    equal : (x y : Bool) → beq x y ≡ true → x ≡ y
    equal true true same = refl
    equal false false same = refl
    equal true false same = absurd (cc)
    equal false true same = absurd (cc)
same_column (cast ∷ casts) a b (suc scene) all = same_column casts a b scene (and_parts (beq (has cast a) (has cast b)) (list_all (λ cast. beq (has cast a) (has cast b)) casts) all).1

sum_by-add : (f g : ℕ → ℕ) (xs : List ℕ) → sum_by (λ x. f x + g x) xs ≡ sum_by f xs + sum_by g xs
sum_by-add f g [] = refl
sum_by-add f g (x ∷ xs) = omega (arith, sum_by-cons (λ y. f y + g y) x xs, sum_by-cons f x xs, sum_by-cons g x xs, sum_by-add f g xs)

module _ (state : State) (a b : ℕ) (lt : a < b) (within : b < length state.film.rates) (is : IsState state) (can : can_join_actors state.film a b ≡ true) where
  abbrev after : FilmData
  after = (actors_joined state a b).film

  within_holds : b < length state.film.holds
  within_holds = rw is.film.hold_count within

  works-after : (other scene : ℕ) → works after other scene ≡ works state.film (behind_gap b other) scene
  works-after other scene = has-casts_without state.film.casts b scene other

  together : (scene : ℕ) → works state.film a scene ≡ works state.film b scene
  together scene = same_column state.film.casts a b scene can

  days-other : (other : ℕ) → a ≢ other → (scene : ℕ) → day_pay after other scene ≡ day_pay state.film (behind_gap b other) scene
  days-other other differs scene i =
      slice_index state.film.days scene * cond (works-after other scene i) (joined-elsewhere state.film.rates b within a (slice_index state.film.rates a + slice_index state.film.rates b) other 0 (λ same. differs (sym same)) i) (joined-elsewhere state.film.holds b within_holds a (slice_index state.film.holds a + slice_index state.film.holds b) other 0 (λ same. differs (sym same)) i)

  -- the joined actor gets for a scene what both got
  days-both : (scene : ℕ) → day_pay after a scene ≡ day_pay state.film a scene + day_pay state.film b scene
  days-both scene =
      (λ i. slice_index state.film.days scene * cond (here i) (joined-here state.film.rates b within a (slice_index state.film.rates a + slice_index state.film.rates b) 0 lt i) (joined-here state.film.holds b within_holds a (slice_index state.film.holds a + slice_index state.film.holds b) 0 lt i))
      ∙ both (slice_index state.film.days scene) (works state.film a scene) (slice_index state.film.rates a) (slice_index state.film.rates b) (slice_index state.film.holds a) (slice_index state.film.holds b)
      ∙ (λ i. day_pay state.film a scene + slice_index state.film.days scene * cond (together scene i) (slice_index state.film.rates b) (slice_index state.film.holds b))
    where
      here : works after a scene ≡ works state.film a scene
      here = works-after a scene ∙ ap (λ (actor : ℕ). works state.film actor scene) (gap_below b a lt)

      both : (days : ℕ) (works : Bool) (rate other_rate hold other_hold : ℕ)
          → days * cond works (rate + other_rate) (hold + other_hold) ≡ days * cond works rate hold + days * cond works other_rate other_hold
      both days true rate other_rate hold other_hold = grind arith
      both days false rate other_rate hold other_hold = grind arith

  pay-both : (order : List ℕ) → actor_pay after order a ≡ actor_pay state.film order a + actor_pay state.film order b
  pay-both order =
      (λ i. sum_by (λ scene. days-both scene i) (to_last (λ scene. here scene i) (from_first (λ scene. here scene i) order)))
      ∙ sum_by-add (day_pay state.film a) (day_pay state.film b) (span state.film order a)
      ∙ (λ i. actor_pay state.film order a + sum_by (day_pay state.film b) (to_last (λ scene. together scene i) (from_first (λ scene. together scene i) order)))
    where
      here : (scene : ℕ) → works after a scene ≡ works state.film a scene
      here scene = works-after a scene ∙ ap (λ (actor : ℕ). works state.film actor scene) (gap_below b a lt)

  pay-joined : (order : List ℕ) → pay_of state.film order ≡ pay_of after order
  pay-joined order =
      let fewer : length (remove state.film.rates b) + 1 ≡ length state.film.rates = length-remove state.film.rates b within in
      let count : length (summed state.film.rates a b) ≡ length (remove state.film.rates b) = length-set (remove state.film.rates b) a (slice_index state.film.rates a + slice_index state.film.rates b) in
      let left : (ℕ → ℕ) = λ other. actor_pay state.film order (behind_gap b other) in
      let point : sum_below (length (remove state.film.rates b)) (actor_pay after order) + actor_pay state.film order (behind_gap b a)
      ≡ sum_below (length (remove state.film.rates b)) (λ other. actor_pay state.film order (behind_gap b other)) + actor_pay after order a
      = sum_below-point (length (remove state.film.rates b)) a (actor_pay after order) (λ other. actor_pay state.film order (behind_gap b other)) (omega (arith, lt, within, fewer))
      (λ other _ differs. same_pay after state.film order other (behind_gap b other) (works-after other) (days-other other differs)) in
      let first : actor_pay state.film order (behind_gap b a) ≡ actor_pay state.film order a = ap (actor_pay state.film order) (gap_below b a lt) in
      let all = sum_below-gap (length (remove state.film.rates b)) b (actor_pay state.film order) (omega (arith, within, fewer)) in
      let whole : sum_below (suc (length (remove state.film.rates b))) (actor_pay state.film order) ≡ pay_of state.film order
      = ap (λ (n : ℕ). sum_below n (actor_pay state.film order)) (omega (arith, fewer)) in
      let now : sum_below (length (remove state.film.rates b)) (actor_pay after order) ≡ pay_of after order
      = ap (λ (n : ℕ). sum_below n (actor_pay after order)) (sym count) in
      omega (arith, point, first, pay-both order, all, whole, now)

  pub actors_join_keeps : StepKeeps state (actors_joined state a b)
  actors_join_keeps = record {
    fell = 0;
    apart = omega arith;
    classes = is.members ∙ sym scenes;
    back = λ order is_order. record {
      earlier = order;
      is_order = rw (← scenes) is_order;
      kept = (λ keeps. keeps, λ keeps. keeps);
      pay = omega (arith, pay-joined order);
      members = refl;
    };
    forth = λ order kept. (order, record { is_order = rw scenes kept.is_order; keeps = kept.keeps }, omega (arith, pay-joined order));
  }
    where
      scenes : length (casts_without state.film.casts b) ≡ length state.film.casts
      scenes = length-map state.film.casts (λ cast. closed_up cast b)
