-- The steps one after the other, from a film to its last state.
use Rattle.std.proofs.Common.{◌≡◌, ◌↔◌, ℕ, zero, suc, ◌+◌, ◌<◌, ◌≤◌, List, [], ◌∷◌, length, map, All, slice_index_or, Option, None, Some, refl, sym, ap, subst, ◌∙◌, arith}
use Rattle.std.proofs.lemmas.List.{get_or-map}
use Rattle.std.proofs.lemmas.List.Elements.{All-head, All-tail}
use Rattle.strip_mask.specs.Set.{numbers_below}
use Rattle.strip_mask.proofs.Members.{length-numbers_below, number_at}
use Rattle.strip_model.specs.Film.{FilmData}
use Rattle.strip_model.specs.Order.{IsOrder, Keeps}
use Rattle.strip_model.specs.Pay.{IsOptimum, pay_of}
use Rattle.strip_film.specs.Film.{IsFilmUpTo}
use Rattle.strip_reduce.specs.State.{State, IsState, start, way_back}
use Rattle.strip_reduce.specs.Reduction.{after_steps, next, reduced}
use Rattle.strip_reduce.specs.Law.{StandsFor}
use Rattle.strip_reduce.proofs.StepKeeps.{IsBackFrom, StepKeeps}
use Rattle.strip_reduce.proofs.Limits.{limits-start}
use Rattle.strip_reduce.proofs.Turn.{Turn, optimum_falls, size, turn_keeps, turn_lessens, turn_limits, turn_of}

-- a step more
pub stands_further : (first : FilmData) (before after : State) → StandsFor first before → StepKeeps before after → StandsFor first after
stands_further first before after stands keeps = record {
  order = λ order is.
      let from : IsBackFrom before after keeps.fell order = keeps.back order is in
      subst (IsOrder (length first.casts)) from.members (stands.order from.earlier from.is_order);
  kept = λ order is.
      let from : IsBackFrom before after keeps.fell order = keeps.back order is in
      let earlier = stands.kept from.earlier from.is_order in (
        λ keeps_first. from.kept.0 (earlier.0 (subst (Keeps first.pairs) (sym from.members) keeps_first)),
        λ keeps_after. subst (Keeps first.pairs) from.members (earlier.1 (from.kept.1 keeps_after)),
      );
  pay = λ order is.
      let from : IsBackFrom before after keeps.fell order = keeps.back order is in
      let same : pay_of first (way_back before.members from.earlier) ≡ pay_of first (way_back after.members order) = ap (pay_of first) from.members in
      omega (arith, same, stands.pay from.earlier from.is_order, from.pay, keeps.apart);
  optimum = λ cost.
      let step : IsOptimum after.film cost ↔ IsOptimum before.film (cost + keeps.fell) = optimum_falls before after keeps cost in
      let earlier : IsOptimum before.film (cost + keeps.fell) ↔ IsOptimum first (cost + keeps.fell + before.apart) = stands.optimum (cost + keeps.fell) in
      let sum : cost + keeps.fell + before.apart ≡ cost + after.apart = omega (arith, keeps.apart) in (
        λ best. subst (IsOptimum first) sum (earlier.0 (step.0 best)),
        λ best. step.1 (earlier.1 (subst (IsOptimum first) (sym sum) best)),
      );
}

-- at the start each scene is its own way back
way_back-start : (n : ℕ) (order : List ℕ) → All (λ scene. scene < n) order → way_back (map (λ scene. scene ∷ []) (numbers_below n)) order ≡ order
way_back-start n [] all = refl
way_back-start n (scene ∷ scenes) all =
    let within : scene < n = All-head (λ s. s < n) scene scenes all in
    let here : slice_index_or (map (λ s. s ∷ []) (numbers_below n)) scene [] ≡ scene ∷ []
    = get_or-map (λ s. s ∷ []) (numbers_below n) scene 0 [] (omega (arith, within, length-numbers_below n)) ∙ ap (λ (s : ℕ). s ∷ []) (number_at n scene within) in
    rw (here, way_back-start n scenes (All-tail (λ s. s < n) scene scenes all)) refl

pub stands-start : (film : FilmData) → StandsFor film (start film)
stands-start film = record {
  order = λ order is. rw (way_back-start (length film.casts) order is.known) is;
  kept = λ order is. rw (way_back-start (length film.casts) order is.known) (λ keeps. keeps, λ keeps. keeps);
  pay = λ order is. rw (way_back-start (length film.casts) order is.known) (omega arith);
  optimum = λ cost. (let same : cost ≡ cost + 0 = omega arith in (λ best. subst (IsOptimum film) same best, λ best. subst (IsOptimum film) (sym same) best));
}

-- a state that the reduction of a film comes to
pub record IsReached (first : FilmData) (state : State) : Type 0 where
  pub is : IsState state
  pub stands : StandsFor first state

by_next : (P : State → Type 0) (n : ℕ) (state : State) (o : Option State) → next state ≡ o → (o ≡ None → P state) → ((later : State) → o ≡ Some later → P (after_steps n later)) → P (after_steps (suc n) state)
by_next P n state None is here later = rw is (here refl)
by_next P n state (Some more) is here later = rw is (later more refl)

pub reached : (first : FilmData) (n : ℕ) (state : State) → IsReached first state → IsReached first (after_steps n state)
reached first zero state so_far = so_far
reached first (suc n) state so_far = by_next (IsReached first) n state (next state) refl (λ none. so_far) (λ later is.
    let turn : Turn state later = turn_of state later is in
    reached first n later (record { is = turn_limits state later so_far.is turn; stands = stands_further first state later so_far.stands (turn_keeps state later so_far.is turn) }))

pub reduced_reached : (film : FilmData) → IsFilmUpTo 200 film → IsReached film (reduced film)
reduced_reached film is = reached film (length film.casts + length film.rates) (start film) (record { is = limits-start film is; stands = stands-start film })

-- as many steps as there are scenes and actors leave none to take
ends : (n : ℕ) (state : State) → size state ≤ n → next (after_steps n state) ≡ None
ends zero state small = none (next state) refl
  where
    none : (o : Option State) → next state ≡ o → o ≡ None
    none None is = refl
    none (Some later) is = absurd (omega (arith, small, turn_lessens state later (turn_of state later is)))
ends (suc n) state small = by_next (λ s. next s ≡ None) n state (next state) refl (λ none. none) (λ later is.
    ends n later (omega (arith, small, turn_lessens state later (turn_of state later is))))

pub reduced_ends : (film : FilmData) → next (reduced film) ≡ None
reduced_ends film = ends (length film.casts + length film.rates) (start film) (omega arith)
