-- Orders with one scene moved.
use Rattle.std.proofs.Common.{◌≡◌, ℕ, ◌+◌, ◌-◌, ◌<◌, ◌≤◌, List, [], ◌∷◌, ◌++◌, length, take, drop, slice_index, sym, ap, ◌∙◌, subst, append_assoc, arith}
use Rattle.std.proofs.Math.Seq.{drop-append-add, get_or-append_seam}
use Rattle.std.proofs.lemmas.List.{drop_at, drop_more, drop-drop, get_or-append_right, get_or_append_left, get_or-drop, get_or-take}
use Rattle.std.proofs.lemmas.List.{length-append, length-drop, length-take-le, take-append-drop, take-append-le, take-take, take_at, take_more}
use Rattle.strip_start.specs.Moves.{moved, put_in, taken_out}

module _ (order : List ℕ) (from : ℕ) (within : from < length order) where
  abbrev base : List ℕ
  base = taken_out from order

  abbrev scene : ℕ
  scene = slice_index order from

  front : length (take from order) ≡ from
  front = length-take-le from order (omega (arith, within))

  pub length-base : length base + 1 ≡ length order
  length-base = omega (arith, within, length-append (take from order) (drop (from + 1) order), front, length-drop (from + 1) order)

  -- put back at its own place, the scene gives the order
  pub moved_back : moved order from from ≡ order
  moved_back =
      ap (λ (xs : List ℕ). xs ++ scene ∷ drop from base) (take_at (take from order) (drop (from + 1) order) from front)
      ∙ ap (λ (xs : List ℕ). take from order ++ scene ∷ xs) (drop_at (take from order) (drop (from + 1) order) from front)
      ∙ ap (λ (xs : List ℕ). take from order ++ xs) (sym (drop_more order from 0 within))
      ∙ take-append-drop from order

  -- the moved order by the scene that then comes next
  pub next_behind : (place : ℕ) → place < length base
      → moved order from place ≡ take place base ++ scene ∷ slice_index base place ∷ drop (place + 1) base
  next_behind place lt = ap (λ (xs : List ℕ). take place base ++ scene ∷ xs) (drop_more base place 0 lt)

  pub next_before : (place : ℕ) → place < length base
      → moved order from (place + 1) ≡ take place base ++ slice_index base place ∷ scene ∷ drop (place + 1) base
  next_before place lt =
      ap (λ (xs : List ℕ). xs ++ scene ∷ drop (place + 1) base) (take_more base place 0 lt)
      ∙ append_assoc (take place base) (slice_index base place ∷ []) (scene ∷ drop (place + 1) base)

  -- ---- what stands before the scene's own place

  pub before_same : (place : ℕ) → place ≤ from → take place base ≡ take place order
  before_same place le =
      take-append-le place (take from order) (drop (from + 1) order) (omega (arith, front, le)) ∙ take-take place from order le

  pub scene_before : (place : ℕ) → place < from → slice_index base place ≡ slice_index order place
  scene_before place lt =
      get_or_append_left (take from order) (drop (from + 1) order) 0 place (omega (arith, front, lt)) ∙ get_or-take from order place 0 lt

  pub from_own : drop from base ≡ drop (from + 1) order
  from_own = drop_at (take from order) (drop (from + 1) order) from front

  -- ---- and behind it

  pub scene_behind : (place : ℕ) → from ≤ place → slice_index base place ≡ slice_index order (place + 1)
  scene_behind place le =
      get_or-append_right (take from order) (drop (from + 1) order) from place 0 front le
      ∙ get_or-drop (from + 1) order (place - from) 0
      ∙ (let same : from + 1 + (place - from) ≡ place + 1 = omega (arith, le) in ap (λ (i : ℕ). slice_index order i) same)

  pub behind_same : (place : ℕ) → from ≤ place → drop place base ≡ drop (place + 1) order
  behind_same place le =
      (let same : length (take from order) + (place - from) ≡ place = omega (arith, front, le) in
      subst (λ (i : ℕ). drop i base ≡ drop (place - from) (drop (from + 1) order)) same (drop-append-add (take from order) (drop (from + 1) order) (place - from)))
      ∙ drop-drop (place - from) (from + 1) order
      ∙ (let same : from + 1 + (place - from) ≡ place + 1 = omega (arith, le) in ap (λ (i : ℕ). drop i order) same)

  -- the moved order is as long
  pub length-moved : (to : ℕ) → length (moved order from to) ≡ length order
  length-moved to =
      let split : length (take to base) + length (drop to base) ≡ length base
      = sym (length-append (take to base) (drop to base)) ∙ ap length (take-append-drop to base) in
      omega (arith, length-append (take to base) (scene ∷ drop to base), split, length-base)

  -- ---- what a move keeps

  module _ (to : ℕ) (put : to < length order) where
    lead : length (take to base) ≡ to
    lead = length-take-le to base (omega (arith, put, length-base))

    pub moved_stands : slice_index (moved order from to) to ≡ scene
    moved_stands = subst (λ (i : ℕ). slice_index (moved order from to) i ≡ scene) lead (get_or-append_seam (take to base) scene (drop to base) 0)

    pub moved_others : taken_out to (moved order from to) ≡ base
    moved_others =
        ap (λ (xs : List ℕ). xs ++ drop (to + 1) (moved order from to)) (take_at (take to base) (scene ∷ drop to base) to lead)
        ∙ ap (λ (xs : List ℕ). take to base ++ xs) behind
        ∙ take-append-drop to base
      where
        behind : drop (to + 1) (moved order from to) ≡ drop to base
        behind =
            ap (λ (xs : List ℕ). drop (to + 1) xs) (sym (append_assoc (take to base) (scene ∷ []) (drop to base)))
            ∙ drop_at (take to base ++ scene ∷ []) (drop to base) (to + 1) (omega (arith, length-append (take to base) (scene ∷ []), lead))

    pub moved_home : moved (moved order from to) to from ≡ order
    moved_home = (λ i. put_in from (moved_stands i) (moved_others i)) ∙ moved_back
