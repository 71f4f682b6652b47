-- The scene of a place is taken past the one behind it, by what the code has at hand.
use Rattle.std.proofs.Common.{◌≡◌, ℕ, ◌+◌, ◌<◌, ◌≤◌, List, length, take, drop, slice_index, sym, ap, ◌∙◌, subst, arith}
use Rattle.strip_mask.specs.Set.{union}
use Rattle.strip_model.specs.Film.{FilmData}
use Rattle.strip_model.specs.Pairs.{Precedes}
use Rattle.strip_film.specs.Film.{IsFilm}
use Rattle.strip_start.specs.Moves.{IsBetter, taken_out}
use Rattle.strip_start.specs.Sides.{cast_along, turn_cost}
use Rattle.strip_start.proofs.Along.{cast_along-more}
use Rattle.strip_start.proofs.Places.{behind_same, length-base, scene_behind}
use Rattle.strip_start.proofs.Tried.{IsAt, at_on, enough_on, stuck_on}

module _ (film : FilmData) (is : IsFilm film) (order : List ℕ) (from : ℕ) (within : from < length order) where
  abbrev base : List ℕ
  base = taken_out from order

  abbrev scene : ℕ
  scene = slice_index order from

  -- to the end, from the place to the next one
  module _ (to place cost : ℕ) (next : place + 1 ≡ to) (inside : from ≤ place) (put : to < length order) where
    lt : place < length base
    lt = omega (arith, next, put, length-base order from within)

    there : (then : ℕ) → IsAt film order from (place + 1) then → IsAt film order from to then
    there then at = subst (λ (i : ℕ). IsAt film order from i then) next at

    other_is : slice_index base place ≡ slice_index order to
    other_is = scene_behind order from within place inside ∙ ap (λ (i : ℕ). slice_index order i) next

    behind_is : cast_along film (drop (place + 1) base) ≡ cast_along film (drop (to + 1) order)
    behind_is = ap (λ (i : ℕ). cast_along film (drop i base)) next
        ∙ ap (cast_along film) (behind_same order from within to (omega (arith, next, inside)))

    pub on_stuck : Precedes film.pairs scene (slice_index order to) → (t : ℕ) → to ≤ t → ¬ IsBetter film order from t
    on_stuck pair t past = stuck_on film is order from within place cost lt
        (subst (λ (x : ℕ). Precedes film.pairs scene x) (sym other_is) pair) t (omega (arith, next, past))

    module _ (before behind : ℕ) (before_them : before ≡ cast_along film (take place base)) (behind_them : behind ≡ cast_along film (drop (to + 1) order))
        (free : ¬ Precedes film.pairs scene (slice_index order to)) where
      other_first : turn_cost film (cast_along film (take place base)) (cast_along film (drop (place + 1) base)) (slice_index base place) scene
          ≡ turn_cost film before behind (slice_index order to) scene
      other_first = λ i. turn_cost film (sym before_them i) ((behind_is ∙ sym behind_them) i) (other_is i) scene

      scene_first : turn_cost film (cast_along film (take place base)) (cast_along film (drop (place + 1) base)) scene (slice_index base place)
          ≡ turn_cost film before behind scene (slice_index order to)
      scene_first = λ i. turn_cost film (sym before_them i) ((behind_is ∙ sym behind_them) i) scene (other_is i)

      free_base : ¬ Precedes film.pairs scene (slice_index base place)
      free_base pair = free (subst (λ (x : ℕ). Precedes film.pairs scene x) other_is pair)

      pub on_enough : IsAt film order from place cost
          → turn_cost film before behind scene (slice_index order to) ≤ cost + turn_cost film before behind (slice_index order to) scene
      on_enough at = omega (arith, other_first, scene_first, enough_on film is order from within place cost lt free_base at)

      pub on_at : (then : ℕ) → IsAt film order from place cost
          → then + turn_cost film before behind scene (slice_index order to) ≡ cost + turn_cost film before behind (slice_index order to) scene
          → IsAt film order from to then
      on_at then at paid = there then (at_on film is order from within place cost lt then free_base at (omega (arith, other_first, scene_first, paid)))

      pub on_before : union before (slice_index film.casts (slice_index order to)) ≡ cast_along film (take to base)
      on_before =
          ap (λ (q : ℕ). union q (slice_index film.casts (slice_index order to))) before_them
          ∙ ap (λ (x : ℕ). union (cast_along film (take place base)) (slice_index film.casts x)) (sym other_is)
          ∙ sym (cast_along-more film base place lt)
          ∙ ap (λ (i : ℕ). cast_along film (take i base)) next
