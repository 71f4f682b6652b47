-- The places that one scene of an order is tried at, one after the other.
use Rattle.std.proofs.Common.{◌≡◌, ℕ, ◌+◌, ◌-◌, ◌*◌, ◌<◌, ◌≤◌, ◌^◌, Option, Some, None, IfSome, List, ◌∷◌}
use Rattle.std.proofs.Common.{◌++◌, length, take, drop, slice_index, Contains, inl, inr, sym, ap, ◌∙◌, subst, append_assoc, arith}
use Rattle.std.proofs.lemmas.Bool.{cases_lt}
use Rattle.std.proofs.lemmas.Bool.Decides.{eqb_tells}
use Rattle.std.proofs.lemmas.List.{drop_more, get_or-drop, get_or-take, length-drop, length-take-le, take-append-drop}
use Rattle.std.proofs.lemmas.List.Elements.{All-contains_itself, Contains-append_right}
use Rattle.strip_mask.proofs.Below.{IsSet-full}
use Rattle.strip_model.specs.Film.{FilmData}
use Rattle.strip_model.specs.Pairs.{Precedes}
use Rattle.strip_mask.proofs.Lists.{contains_here}
use Rattle.strip_film.specs.declared.limits.TheConstants.{MAX_DAY_SUM}
use Rattle.strip_film.specs.Film.{IsFilm, all_scenes}
use Rattle.strip_film.specs.Finish.{EachOnce, Remained, steps_cost}
use Rattle.strip_film.proofs.Lists.{AllOnce-from_ready}
use Rattle.strip_film.proofs.Costs.{most_a_day, steps_limit}
use Rattle.strip_start.specs.Moves.{IsBetter, moved, taken_out}
use Rattle.strip_start.specs.Scan.{IsFirstPlace, NoPlace}
use Rattle.strip_start.specs.Sides.{cast_along, turn_cost}
use Rattle.strip_start.proofs.Turned.{turned_costs}
use Rattle.strip_start.proofs.Neighbours.{turned_once, never_behind}
use Rattle.strip_start.proofs.Places.{length-base, moved_back, next_behind, next_before}

-- with the scene at this place the order keeps the pairs, and costs this
pub record IsAt (film : FilmData) (order : List ℕ) (from place cost : ℕ) : Type 0 where
  pub once : EachOnce film (all_scenes film) (moved order from place)
  pub costs : cost ≡ steps_cost film (all_scenes film) (moved order from place)

-- an order that has each scene once costs little
pub cost_small : (film : FilmData) (order : List ℕ) → IsFilm film → EachOnce film (all_scenes film) order
    → steps_cost film (all_scenes film) order < 2 ^ 63
cost_small film order is each =
    let most : steps_cost film (all_scenes film) order ≤ MAX_DAY_SUM * most_a_day
    = steps_limit film (all_scenes film) order is (IsSet-full (length film.casts) is.scene_count.1) (AllOnce-from_ready film (all_scenes film) order each).0 in
    omega (arith, most)

module _ (film : FilmData) (is : IsFilm film) (order : List ℕ) (from : ℕ) (within : from < length order) where
  abbrev base : List ℕ
  base = taken_out from order

  abbrev scene : ℕ
  scene = slice_index order from

  abbrev at : ℕ → ℕ → Type 0
  at place cost = IsAt film order from place cost

  -- the cost of the order with the scene and the other next to it turned, by which comes first at the place
  abbrev turn : ℕ → ℕ → ℕ → ℕ
  turn place first second = turn_cost film (cast_along film (take place base)) (cast_along film (drop (place + 1) base)) first second

  pub at_own : EachOnce film (all_scenes film) order → at from (steps_cost film (all_scenes film) order)
  at_own each = record {
    once = subst (λ (xs : List ℕ). EachOnce film (all_scenes film) xs) (sym (moved_back order from within)) each;
    costs = ap (steps_cost film (all_scenes film)) (sym (moved_back order from within));
  }

  pub at_small : (place cost : ℕ) → at place cost → cost < 2 ^ 63
  at_small place cost here = omega (arith, here.costs, cost_small film (moved order from place) is here.once)

  -- ---- one place on, past the scene that comes next

  module _ (place cost : ℕ) (lt : place < length base) where
    abbrev next : ℕ
    next = slice_index base place

    turns : EachOnce film (all_scenes film) (moved order from place) → EachOnce film (all_scenes film) (moved order from (place + 1))
        → steps_cost film (all_scenes film) (moved order from (place + 1)) + turn place scene next
        ≡ steps_cost film (all_scenes film) (moved order from place) + turn place next scene
    turns here there =
        let behind = next_behind order from within place lt in
        let before = next_before order from within place lt in
        let costs = turned_costs film is (take place base) (drop (place + 1) base) scene next
        (AllOnce-from_ready film (all_scenes film) _ (subst (λ (xs : List ℕ). EachOnce film (all_scenes film) xs) behind here))
        (AllOnce-from_ready film (all_scenes film) _ (subst (λ (xs : List ℕ). EachOnce film (all_scenes film) xs) before there)) in
        ap (λ (xs : List ℕ). steps_cost film (all_scenes film) xs + turn place scene next) before
        ∙ costs
        ∙ sym (ap (λ (xs : List ℕ). steps_cost film (all_scenes film) xs + turn place next scene) behind)

    once_on : ¬ Precedes film.pairs scene next → EachOnce film (all_scenes film) (moved order from place)
        → EachOnce film (all_scenes film) (moved order from (place + 1))
    once_on free here =
        subst (λ (xs : List ℕ). EachOnce film (all_scenes film) xs) (sym (next_before order from within place lt))
        (turned_once film (take place base) (drop (place + 1) base) scene next free
        (subst (λ (xs : List ℕ). EachOnce film (all_scenes film) xs) (next_behind order from within place lt) here))

    once_back : ¬ Precedes film.pairs next scene → EachOnce film (all_scenes film) (moved order from (place + 1))
        → EachOnce film (all_scenes film) (moved order from place)
    once_back free there =
        subst (λ (xs : List ℕ). EachOnce film (all_scenes film) xs) (sym (next_behind order from within place lt))
        (turned_once film (take place base) (drop (place + 1) base) next scene free
        (subst (λ (xs : List ℕ). EachOnce film (all_scenes film) xs) (next_before order from within place lt) there))

    -- enough is paid to take the turn's cost off, either way
    pub enough_on : ¬ Precedes film.pairs scene next → at place cost → turn place scene next ≤ cost + turn place next scene
    enough_on free here = omega (arith, turns here.once (once_on free here.once), here.costs)

    pub enough_back : ¬ Precedes film.pairs next scene → at (place + 1) cost → turn place next scene ≤ cost + turn place scene next
    enough_back free there = omega (arith, turns (once_back free there.once) there.once, there.costs)

    pub at_on : (then : ℕ) → ¬ Precedes film.pairs scene next → at place cost
        → then + turn place scene next ≡ cost + turn place next scene → at (place + 1) then
    at_on then free here paid = record {
      once = once_on free here.once;
      costs = omega (arith, turns here.once (once_on free here.once), here.costs, paid);
    }

    pub at_back : (then : ℕ) → ¬ Precedes film.pairs next scene → at (place + 1) cost
        → then + turn place next scene ≡ cost + turn place scene next → at place then
    at_back then free there paid = record {
      once = once_back free there.once;
      costs = omega (arith, turns (once_back free there.once) there.once, there.costs, paid);
    }

    -- ---- and where a pair forbids that

    -- no place further on keeps it
    pub stuck_on : Precedes film.pairs scene next → (to : ℕ) → place < to → ¬ IsBetter film order from to
    stuck_on pair to past better =
        let few : to ≤ length base = omega (arith, better.put, length-base order from within) in
        let long : length (take to base) ≡ to = length-take-le to base few in
        let split : take to base ≡ take place (take to base) ++ next ∷ drop (place + 1) (take to base)
        = sym (take-append-drop place (take to base))
        ∙ ap (λ (xs : List ℕ). take place (take to base) ++ xs) (drop_more (take to base) place 0 (omega (arith, long, past))
        ∙ ap (λ (x : ℕ). x ∷ drop (place + 1) (take to base)) (get_or-take to base place 0 past)) in
        let whole : moved order from to ≡ take place (take to base) ++ next ∷ (drop (place + 1) (take to base) ++ scene ∷ drop to base)
        = ap (λ (xs : List ℕ). xs ++ scene ∷ drop to base) split
        ∙ append_assoc (take place (take to base)) (next ∷ drop (place + 1) (take to base)) (scene ∷ drop to base) in
        never_behind film (all_scenes film) (take place (take to base)) (drop (place + 1) (take to base) ++ scene ∷ drop to base) scene next pair
        (Contains-append_right (drop (place + 1) (take to base)) (scene ∷ drop to base) scene (contains_here scene (drop to base)))
        (subst (λ (xs : List ℕ). Remained film (all_scenes film) xs) whole better.once.0)

    -- no place further back keeps it
    pub stuck_back : Precedes film.pairs next scene → (to : ℕ) → to ≤ place → ¬ IsBetter film order from to
    stuck_back pair to le better =
        never_behind film (all_scenes film) (take to base) (drop to base) next scene pair
        (contains_dropped base place to lt le) better.once.0
      where
        contains_dropped : (xs : List ℕ) (i n : ℕ) → i < length xs → n ≤ i → Contains (drop n xs) (slice_index xs i)
        contains_dropped xs i n inside past =
            let inside_too : i - n < length (drop n xs) = omega (arith, inside, past, length-drop n xs) in
            let same : n + (i - n) ≡ i = omega (arith, past) in
            subst (Contains (drop n xs)) (get_or-drop n xs (i - n) 0 ∙ ap (λ (j : ℕ). slice_index xs j) same)
            (All-contains_itself (drop n xs) (i - n) 0 inside_too)

  -- ---- which is better

  pub better_at : (place cost : ℕ) → place < length order → at place cost → cost < steps_cost film (all_scenes film) order → IsBetter film order from place
  better_at place cost lt here less = record {
    taken = within;
    put = lt;
    once = here.once;
    cheaper = omega (arith, here.costs, less);
  }

  pub no_better_at : (place cost : ℕ) → at place cost → steps_cost film (all_scenes film) order ≤ cost → ¬ IsBetter film order from place
  no_better_at place cost here more better = omega (arith, here.costs, more, better.cheaper)

-- ---- what is known of the places that were tried

-- of the places from this one up to the scene's own, none is better, or this is the first that is
abbrev pub IsBestFrom : FilmData → List ℕ → ℕ → ℕ → Option ℕ → Type 0
IsBestFrom film order from to None = NoPlace film order from to from
IsBestFrom film order from to (Some best) = IsBetter film order from best × NoPlace film order from to best

module _ (film : FilmData) (order : List ℕ) (from : ℕ) where
  pub best_at_first : IsBestFrom film order from from None
  best_at_first to after before = absurd (omega (arith, after, before))

  none_more : (to place end : ℕ) → to + 1 ≡ place → ¬ IsBetter film order from to → NoPlace film order from place end → NoPlace film order from to end
  none_more to place end next not_here none t after before better = elim (eqb_tells to t) [
    | inl same ↦ not_here (subst (λ (i : ℕ). IsBetter film order from i) (sym same.1) better)
    | inr other ↦ none t (omega (arith, after, other.1, next)) before better
  ]

  pub best_past : (to place : ℕ) (best : Option ℕ) → to + 1 ≡ place → ¬ IsBetter film order from to
      → IsBestFrom film order from place best → IsBestFrom film order from to best
  best_past to place None next not_here none = none_more to place from next not_here none
  best_past to place (Some best) next not_here is = (is.0, none_more to place best next not_here is.1)

  pub best_here : (to : ℕ) → IsBetter film order from to → IsBestFrom film order from to (Some to)
  best_here to better = (better, λ t after before. absurd (omega (arith, after, before)))

  none_to_front : (place end : ℕ) → ((to : ℕ) → to < place → ¬ IsBetter film order from to) → NoPlace film order from place end → NoPlace film order from 0 end
  none_to_front place end stuck none t after before = elim (cases_lt t place) [
    | inl below ↦ stuck t below
    | inr from_there ↦ none t from_there before
  ]

  -- where no place further to the front is better, that is what is known of all of them
  pub best_stuck : (place : ℕ) (best : Option ℕ) → ((to : ℕ) → to < place → ¬ IsBetter film order from to)
      → IsBestFrom film order from place best → IsBestFrom film order from 0 best
  best_stuck place None stuck none = none_to_front place from stuck none
  best_stuck place (Some best) stuck is = (is.0, none_to_front place best stuck is.1)

  pub best_some : (best : Option ℕ) → IsBestFrom film order from 0 best → IfSome best (IsFirstPlace film order from)
  best_some None none = tt
  best_some (Some best) is = record { better = is.0; first = λ earlier before. is.1 earlier (omega arith) before }

  pub best_none : (best : Option ℕ) → IsBestFrom film order from 0 best → best ≡ None → NoPlace film order from 0 from
  best_none None none same = none
  best_none (Some best) is same = absurd (cc)

  -- one place more at the end, or all that are left
  pub none_at_end : (place : ℕ) → NoPlace film order from 0 place → ¬ IsBetter film order from place → NoPlace film order from 0 (place + 1)
  none_at_end place none not_here t after before better = elim (eqb_tells place t) [
    | inl same ↦ not_here (subst (λ (i : ℕ). IsBetter film order from i) (sym same.1) better)
    | inr other ↦ none t after (omega (arith, before, other.1)) better
  ]

  pub none_further : (place end : ℕ) → NoPlace film order from 0 place → ((to : ℕ) → place ≤ to → ¬ IsBetter film order from to) → NoPlace film order from 0 end
  none_further place end none stuck t after before = elim (cases_lt t place) [
    | inl below ↦ none t after below
    | inr past ↦ stuck t past
  ]
