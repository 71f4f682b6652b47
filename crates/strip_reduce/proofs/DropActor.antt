-- An actor is dropped.
use Rattle.std.proofs.Common.{◌≡◌, ℕ, suc, ◌+◌, ◌*◌, ◌<◌, true, cond, List, length, refl, sym, ap, ◌∙◌, arith, slice_index, sum_by}
use Rattle.std.proofs.lemmas.List.{length-map}
use Rattle.std.specs.List.{remove}
use Rattle.std.proofs.lemmas.List.Edits.{length-remove}
use Rattle.strip_mask.specs.Set.{behind_gap, closed_up}
use Rattle.strip_mask.specs.Sums.{sum_below}
use Rattle.strip_mask.proofs.Sums.{sum_below-ext}
use Rattle.strip_model.specs.Film.{FilmData}
use Rattle.strip_model.specs.Order.{IsOrder}
use Rattle.strip_model.specs.Pay.{works, from_first, to_last, span, day_pay, pay_of}
use Rattle.strip_reduce.specs.State.{State, IsState}
use Rattle.strip_reduce.specs.Steps.{can_drop, casts_without, dropped, work_days}
use Rattle.strip_reduce.proofs.Columns.{has-casts_without, sum_below-gap}
use Rattle.strip_reduce.proofs.Places.{removed-at}
use Rattle.strip_reduce.proofs.Fixed.{fixed_pay}
use Rattle.strip_reduce.proofs.StepKeeps.{StepKeeps}

-- what an actor gets for an order
abbrev pub actor_pay : FilmData → List ℕ → ℕ → ℕ
actor_pay film order actor = sum_by (day_pay film actor) (span film order actor)

-- an actor who works as another in another film, and gets for each scene what that one gets
pub same_pay : (film other : FilmData) (order : List ℕ) (a b : ℕ) → ((scene : ℕ) → works film a scene ≡ works other b scene)
    → ((scene : ℕ) → day_pay film a scene ≡ day_pay other b scene) → actor_pay film order a ≡ actor_pay other order b
same_pay film other order a b same_works same_days i =
    sum_by (λ scene. same_days scene i) (to_last (λ scene. same_works scene i) (from_first (λ scene. same_works scene i) order))

module _ (state : State) (actor : ℕ) (within : actor < length state.film.rates) (is : IsState state) where
  abbrev after : FilmData
  after = (dropped state actor).film

  works-after : (other scene : ℕ) → works after other scene ≡ works state.film (behind_gap actor other) scene
  works-after other scene = has-casts_without state.film.casts actor scene other

  days-after : (other scene : ℕ) → day_pay after other scene ≡ day_pay state.film (behind_gap actor other) scene
  days-after other scene =
      let within_holds : actor < length state.film.holds = rw is.film.hold_count within in
      λ i. slice_index state.film.days scene * cond (works-after other scene i) (removed-at state.film.rates actor within other 0 i) (removed-at state.film.holds actor within_holds other 0 i)

  pay-after : (order : List ℕ) → pay_of after order + actor_pay state.film order actor ≡ pay_of state.film order
  pay-after order =
      let fewer : length (remove state.film.rates actor) + 1 ≡ length state.film.rates = length-remove state.film.rates actor within in
      let same : pay_of after order ≡ sum_below (length (remove state.film.rates actor)) (λ other. actor_pay state.film order (behind_gap actor other))
      = sum_below-ext (length (remove state.film.rates actor)) (actor_pay after order) (λ other. actor_pay state.film order (behind_gap actor other))
      (λ other lt. same_pay after state.film order other (behind_gap actor other) (works-after other) (days-after other)) in
      let all = sum_below-gap (length (remove state.film.rates actor)) actor (actor_pay state.film order) (omega (arith, within, fewer)) in
      let whole : sum_below (suc (length (remove state.film.rates actor))) (actor_pay state.film order) ≡ pay_of state.film order
      = ap (λ (n : ℕ). sum_below n (actor_pay state.film order)) (omega (arith, fewer)) in
      omega (arith, same, all, whole)

  pub drop_keeps : can_drop state.film actor ≡ true → StepKeeps state (dropped state actor)
  drop_keeps can = record {
    fell = set_apart;
    apart = refl;
    classes = is.members ∙ sym scenes;
    back = λ order is_order. record {
      earlier = order;
      is_order = rw (← scenes) is_order;
      kept = (λ keeps. keeps, λ keeps. keeps);
      pay = paid order (rw (← scenes) is_order);
      members = refl;
    };
    forth = λ order kept. (order, record { is_order = rw scenes kept.is_order; keeps = kept.keeps }, omega (arith, paid order kept.is_order));
  }
    where
      set_apart : ℕ
      set_apart = slice_index state.film.rates actor * work_days state.film actor

      scenes : length (casts_without state.film.casts actor) ≡ length state.film.casts
      scenes = length-map state.film.casts (λ cast. closed_up cast actor)

      paid : (order : List ℕ) → IsOrder (length state.film.casts) order → pay_of state.film order ≡ pay_of after order + set_apart
      paid order is_order = omega (arith, pay-after order, fixed_pay state.film actor order is_order can)
