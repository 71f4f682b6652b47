-- The scene of a place is taken past the one that comes next, by what the code has at hand.
use Rattle.std.proofs.Common.{◌≡◌, ◌↔◌, ℕ, ◌+◌, ◌<◌, ◌≤◌, Bool, true, false, IsTrue, List, length, take, drop, slice_index, refl, sym, ap, ◌∙◌, subst, arith}
use Rattle.std.proofs.lemmas.List.{drop_more}
use Rattle.strip_mask.specs.Set.{union}
use Rattle.strip_model.specs.Film.{FilmData}
use Rattle.strip_model.specs.Pairs.{Precedes}
use Rattle.strip_film.specs.Film.{IsFilm, all_scenes}
use Rattle.strip_film.specs.Path.{IsComplete, IsPath, PathData}
use Rattle.strip_film.proofs.Moves.{scenes_known}
use Rattle.strip_film.specs.Finish.{EachOnce, steps_cost}
use Rattle.strip_start.specs.Moves.{IsBetter, taken_out}
use Rattle.strip_start.specs.Sides.{cast_along, turn_cost}
use Rattle.strip_start.proofs.Places.{before_same, length-base, scene_before}
use Rattle.strip_start.proofs.Tried.{IsAt, at_back, enough_back, stuck_back}

-- what a test decides isn't so where it says no
pub not_so : {P : Type 0} (test : Bool) → (IsTrue test ↔ P) → test ≡ false → ¬ P
not_so test decides is so = absurd (let yes_it_is : test ≡ true = decides.1 so in cc)

-- a complete path has each scene once, and they are scenes of the film
pub path_once : (film : FilmData) (path : PathData) → IsComplete film path → EachOnce film (all_scenes film) path.scenes
path_once film path (is, none) = (is.remained, sym is.left ∙ none)

pub scene_known : (film : FilmData) (path : PathData) (place : ℕ) → IsComplete film path → place < length path.scenes
    → slice_index path.scenes place < length film.casts
scene_known film path place is within = scenes_known film path is.0 place 0 within

module _ (film : FilmData) (is : IsFilm film) (order : List ℕ) (from : ℕ) (within : from < length order) where
  abbrev base : List ℕ
  base = taken_out from order

  abbrev scene : ℕ
  scene = slice_index order from

  -- to the front, from the place to the one before it
  module _ (to place cost : ℕ) (next : to + 1 ≡ place) (inside : place ≤ from) where
    lt : to < length base
    lt = omega (arith, next, inside, within, length-base order from within)

    here : IsAt film order from place cost → IsAt film order from (to + 1) cost
    here at = subst (λ (i : ℕ). IsAt film order from i cost) (sym next) at

    other_is : slice_index base to ≡ slice_index order to
    other_is = scene_before order from within to (omega (arith, next, inside))

    before_is : cast_along film (take to base) ≡ cast_along film (take to order)
    before_is = ap (cast_along film) (before_same order from within to (omega (arith, next, inside)))

    pub back_stuck : Precedes film.pairs (slice_index order to) scene → (t : ℕ) → t < place → ¬ IsBetter film order from t
    back_stuck pair t below = stuck_back film is order from within to cost lt
        (subst (λ (x : ℕ). Precedes film.pairs x scene) (sym other_is) pair) t (omega (arith, next, below))

    -- `before` and `behind` are who works on either side of the two
    module _ (before behind : ℕ) (before_them : before ≡ cast_along film (take to order)) (behind_them : behind ≡ cast_along film (drop place base))
        (free : ¬ Precedes film.pairs (slice_index order to) scene) where
      other_first : turn_cost film (cast_along film (take to base)) (cast_along film (drop (to + 1) base)) (slice_index base to) scene
          ≡ turn_cost film before behind (slice_index order to) scene
      other_first = λ i. turn_cost film ((before_is ∙ sym before_them) i) ((ap (λ (n : ℕ). cast_along film (drop n base)) next ∙ sym behind_them) i) (other_is i) scene

      scene_first : turn_cost film (cast_along film (take to base)) (cast_along film (drop (to + 1) base)) scene (slice_index base to)
          ≡ turn_cost film before behind scene (slice_index order to)
      scene_first = λ i. turn_cost film ((before_is ∙ sym before_them) i) ((ap (λ (n : ℕ). cast_along film (drop n base)) next ∙ sym behind_them) i) scene (other_is i)

      free_base : ¬ Precedes film.pairs (slice_index base to) scene
      free_base pair = free (subst (λ (x : ℕ). Precedes film.pairs x scene) other_is pair)

      pub back_enough : IsAt film order from place cost
          → turn_cost film before behind (slice_index order to) scene ≤ cost + turn_cost film before behind scene (slice_index order to)
      back_enough at = omega (arith, other_first, scene_first, enough_back film is order from within to cost lt free_base (here at))

      pub back_at : (then : ℕ) → IsAt film order from place cost
          → then + turn_cost film before behind (slice_index order to) scene ≡ cost + turn_cost film before behind scene (slice_index order to)
          → IsAt film order from to then
      back_at then at paid = at_back film is order from within to cost lt then free_base (here at) (omega (arith, other_first, scene_first, paid))

      pub back_behind : union (slice_index film.casts (slice_index order to)) behind ≡ cast_along film (drop to base)
      back_behind =
          ap (λ (q : ℕ). union (slice_index film.casts (slice_index order to)) q) (behind_them ∙ ap (λ (n : ℕ). cast_along film (drop n base)) (sym next))
          ∙ ap (λ (x : ℕ). union (slice_index film.casts x) (cast_along film (drop (to + 1) base))) (sym other_is)
          ∙ ap (cast_along film) (sym (drop_more base to 0 lt))

-- the complete path of an order
abbrev pub path_along : FilmData → List ℕ → PathData
path_along film order = record { scenes = order; rest = 0; paid = steps_cost film (all_scenes film) order }

pub IsPath-along : (film : FilmData) (order : List ℕ) → EachOnce film (all_scenes film) order → IsPath film (path_along film order)
IsPath-along film order each = record { remained = each.0; left = sym each.1; steps = refl }
