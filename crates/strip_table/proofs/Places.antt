-- The entries at the places of a bucket, from its sets, bounds and lines.
use Rattle.std.proofs.Common.{◌≡◌, ℕ, zero, suc, ◌+◌, ◌<◌, ◌≤◌, ◌==◌, Bool, true, false, cond, not, nat_lt, List, []}
use Rattle.std.proofs.Common.{◌∷◌, ◌++◌, length, min, take, slice_index, slice_set, Some, None, ap, sym, refl, inl, inr, ◌∙◌, arith}
use Rattle.std.specs.List.{position, position_or_len, prefix_len, remove, slice_get}
use Rattle.std.proofs.lemmas.List.Folds.{find_at}
use Rattle.std.proofs.lemmas.Bool.{cases_Bool, cases_lt, cond-false, cond-true, eqb-true, le-ltb, lt-ltb, ltb-true}
use Rattle.std.proofs.lemmas.List.{get_or-take, length-take, length-take-le}
use Rattle.std.proofs.lemmas.List.Quantifiers.{position-Some}
use Rattle.std.proofs.lemmas.Option.{cond_some}
use Rattle.strip_film.specs.declared.shared.Known.{Known}
use Rattle.strip_table.specs.Bucket.{find_in}
use Rattle.strip_table.specs.Shown.{entries_of}

-- the entry of a set, a bound and a line
abbrev pub entry : ℕ → ℕ → ℕ → Known
entry set bound line = record { line = line; set = set; bound = bound }

pub length-entries_of : (sets bounds lines : List ℕ) → length bounds ≡ length sets → length lines ≡ length sets
    → length (entries_of sets bounds lines) ≡ length sets
length-entries_of [] bounds lines b l = refl
length-entries_of (set ∷ sets) [] lines b l = absurd (cc)
length-entries_of (set ∷ sets) (bound ∷ bounds) [] b l = absurd (cc)
length-entries_of (set ∷ sets) (bound ∷ bounds) (line ∷ lines) b l =
    ap suc (length-entries_of sets bounds lines (omega arith) (omega arith))

-- a write at a place
pub entries_of-set : (sets bounds lines : List ℕ) (place set bound line : ℕ)
    → entries_of (slice_set sets place set) (slice_set bounds place bound) (slice_set lines place line)
    ≡ slice_set (entries_of sets bounds lines) place (entry set bound line)
entries_of-set [] bounds lines place set bound line = refl
entries_of-set (s ∷ sets) [] lines zero set bound line = refl
entries_of-set (s ∷ sets) [] lines (suc place) set bound line = refl
entries_of-set (s ∷ sets) (b ∷ bounds) [] zero set bound line = refl
entries_of-set (s ∷ sets) (b ∷ bounds) [] (suc place) set bound line = refl
entries_of-set (s ∷ sets) (b ∷ bounds) (l ∷ lines) zero set bound line = refl
entries_of-set (s ∷ sets) (b ∷ bounds) (l ∷ lines) (suc place) set bound line =
    ap (λ (more : List Known). entry s b l ∷ more) (entries_of-set sets bounds lines place set bound line)

-- one more at the end
pub entries_of-push : (sets bounds lines : List ℕ) (set bound line : ℕ) → length bounds ≡ length sets → length lines ≡ length sets
    → entries_of (sets ++ set ∷ []) (bounds ++ bound ∷ []) (lines ++ line ∷ []) ≡ entries_of sets bounds lines ++ entry set bound line ∷ []
entries_of-push [] [] [] set bound line eb el = refl
entries_of-push [] [] (l ∷ lines) set bound line eb el = absurd (cc)
entries_of-push [] (b ∷ bounds) lines set bound line eb el = absurd (cc)
entries_of-push (s ∷ sets) [] lines set bound line eb el = absurd (cc)
entries_of-push (s ∷ sets) (b ∷ bounds) [] set bound line eb el = absurd (cc)
entries_of-push (s ∷ sets) (b ∷ bounds) (l ∷ lines) set bound line eb el =
    ap (λ (more : List Known). entry s b l ∷ more) (entries_of-push sets bounds lines set bound line (omega arith) (omega arith))

-- one taken out, and one more at the end
pub entries_of-remove : (sets bounds lines : List ℕ) (place set bound line : ℕ) → length bounds ≡ length sets → length lines ≡ length sets → place < length sets
    → entries_of (remove sets place ++ set ∷ []) (remove bounds place ++ bound ∷ []) (remove lines place ++ line ∷ [])
    ≡ remove (entries_of sets bounds lines) place ++ entry set bound line ∷ []
entries_of-remove [] bounds lines place set bound line eb el within = absurd (omega arith)
entries_of-remove (s ∷ sets) [] lines place set bound line eb el within = absurd (cc)
entries_of-remove (s ∷ sets) (b ∷ bounds) [] place set bound line eb el within = absurd (cc)
entries_of-remove (s ∷ sets) (b ∷ bounds) (l ∷ lines) zero set bound line eb el within =
    entries_of-push sets bounds lines set bound line (omega arith) (omega arith)
entries_of-remove (s ∷ sets) (b ∷ bounds) (l ∷ lines) (suc place) set bound line eb el within =
    ap (λ (more : List Known). entry s b l ∷ more) (entries_of-remove sets bounds lines place set bound line (omega arith) (omega arith) (omega arith))

-- the entry at a place within the count
pub used_at : (sets bounds lines : List ℕ) (count place : ℕ) → length bounds ≡ length sets → length lines ≡ length sets → place < length sets → place < count
    → slice_get (take count (entries_of sets bounds lines)) place ≡ Some (entry (slice_index sets place) (slice_index bounds place) (slice_index lines place))
used_at [] bounds lines count place eb el within used = absurd (omega arith)
used_at (s ∷ sets) [] lines count place eb el within used = absurd (cc)
used_at (s ∷ sets) (b ∷ bounds) [] count place eb el within used = absurd (cc)
used_at (s ∷ sets) (b ∷ bounds) (l ∷ lines) zero place eb el within used = absurd (omega arith)
used_at (s ∷ sets) (b ∷ bounds) (l ∷ lines) (suc count) zero eb el within used = refl
used_at (s ∷ sets) (b ∷ bounds) (l ∷ lines) (suc count) (suc place) eb el within used =
    used_at sets bounds lines count place (omega arith) (omega arith) (omega arith) (omega arith)

-- so many entries are used
pub length-used : (sets bounds lines : List ℕ) (count : ℕ) → length bounds ≡ length sets → length lines ≡ length sets → count ≤ length sets
    → length (take count (entries_of sets bounds lines)) ≡ count
length-used sets bounds lines count eb el few =
    length-take-le count (entries_of sets bounds lines) (omega (arith, length-entries_of sets bounds lines eb el))

-- the entries are looked through as the sets are
look_through : (sets bounds lines : List ℕ) (count set : ℕ) → length bounds ≡ length sets → length lines ≡ length sets
    → position_or_len (λ known. known.set == set) (take count (entries_of sets bounds lines)) ≡ position_or_len (λ other. other == set) (take count sets)
look_through sets bounds lines zero set eb el = refl
look_through [] bounds lines (suc count) set eb el = refl
look_through (s ∷ sets) [] lines (suc count) set eb el = absurd (cc)
look_through (s ∷ sets) (b ∷ bounds) [] (suc count) set eb el = absurd (cc)
look_through (s ∷ sets) (b ∷ bounds) (l ∷ lines) (suc count) set eb el =
    ap (λ (n : ℕ). cond (not (s == set)) (1 + n) 0) (look_through sets bounds lines count set (omega arith) (omega arith))

-- what a place tells that is found
position_some : (p : ℕ → Bool) (xs : List ℕ) (place : ℕ) → position p xs ≡ Some place → (position_or_len p xs ≡ place) × (position_or_len p xs < length xs)
position_some p xs place found =
    let parts = cond_some (nat_lt (position_or_len p xs) (length xs)) (position_or_len p xs) place found in
    (parts.1, ltb-true (position_or_len p xs) (length xs) parts.0)

position_none : (p : ℕ → Bool) (xs : List ℕ) → position p xs ≡ None → length xs ≤ position_or_len p xs
position_none p xs none = elim (cases_lt (position_or_len p xs) (length xs)) [
  | inl lt ↦ (
      let here : position p xs ≡ Some (position_or_len p xs) = cond-true _ (Some (position_or_len p xs)) None (lt-ltb (position_or_len p xs) (length xs) lt) in
      absurd (cc))
  | inr le ↦ le
]

-- where the set is found, its entry stands
pub found_at : (sets bounds lines : List ℕ) (count set place : ℕ) → length bounds ≡ length sets → length lines ≡ length sets → count ≤ length sets
    → position (λ other. other == set) (take count sets) ≡ Some place
    → (find_in (take count (entries_of sets bounds lines)) set ≡ Some (entry set (slice_index bounds place) (slice_index lines place)))
    × (slice_get (take count (entries_of sets bounds lines)) place ≡ Some (entry set (slice_index bounds place) (slice_index lines place)))
    × (place < count)
found_at sets bounds lines count set place eb el few found =
    let at = position_some (λ other. other == set) (take count sets) place found in
    let within : place < count = omega (arith, at.0, at.1, length-take-le count sets few) in
    let here : slice_index sets place ≡ set = position-is place found in
    let stands : slice_get (take count (entries_of sets bounds lines)) place ≡ Some (entry set (slice_index bounds place) (slice_index lines place)) =
    used_at sets bounds lines count place eb el (omega arith) within ∙ ap (λ (s : ℕ). Some (entry s (slice_index bounds place) (slice_index lines place))) here in (
      find_at (λ known. known.set == set) (take count (entries_of sets bounds lines))
          ∙ ap (slice_get (take count (entries_of sets bounds lines))) (look_through sets bounds lines count set eb el ∙ at.0) ∙ stands,
      stands,
      within,
    )
  where
    position-is : (place : ℕ) → position (λ other. other == set) (take count sets) ≡ Some place → slice_index sets place ≡ set
    position-is place found =
        let there = position-Some (λ other. other == set) (take count sets) place 0 found in
        sym (get_or-take count sets place 0 (omega (arith, there.0, length-take-le count sets few))) ∙ eqb-true _ set there.1

-- and where it isn't, there is none
pub not_found : (sets bounds lines : List ℕ) (count set : ℕ)
    → position (λ other. other == set) (take count sets) ≡ None → find_in (take count (entries_of sets bounds lines)) set ≡ None
not_found sets bounds lines count set none = through sets bounds lines count (position_none (λ other. other == set) (take count sets) none)
  where
    through : (sets bounds lines : List ℕ) (count : ℕ) → length (take count sets) ≤ position_or_len (λ other. other == set) (take count sets)
        → find_in (take count (entries_of sets bounds lines)) set ≡ None
    through sets bounds lines zero past = refl
    through [] bounds lines (suc count) past = refl
    through (s ∷ sets) [] lines (suc count) past = refl
    through (s ∷ sets) (b ∷ bounds) [] (suc count) past = refl
    through (s ∷ sets) (b ∷ bounds) (l ∷ lines) (suc count) past = elim (cases_Bool (s == set)) [
      | inl is ↦ (
          let first : position_or_len (λ other. other == set) (s ∷ take count sets) ≡ 0 = rw is refl in
          absurd (omega arith))
      | inr isnt ↦ (
          let later : position_or_len (λ other. other == set) (s ∷ take count sets) ≡ 1 + position_or_len (λ other. other == set) (take count sets) = rw isnt refl in
          cond-false (s == set) (Some (entry s b l)) (find_in (take count (entries_of sets bounds lines)) set) isnt
          ∙ through sets bounds lines count (omega arith))
    ]

-- a place that is found lies below the count
pub place_below : (sets : List ℕ) (count set place : ℕ) → position (λ other. other == set) (take count sets) ≡ Some place → place < count
place_below sets count set place found =
    let at = position_some (λ other. other == set) (take count sets) place found in
    omega (arith, at.0, at.1, length-take count sets)

-- how many lead among the first of a list
prefix_len-take : (p : ℕ → Bool) (count : ℕ) (xs : List ℕ) → prefix_len p (take count xs) ≡ min count (prefix_len p xs)
prefix_len-take p zero xs = omega arith
prefix_len-take p (suc count) [] = omega arith
prefix_len-take p (suc count) (x ∷ xs) = longer (p x) (prefix_len p (take count xs)) (prefix_len p xs) (prefix_len-take p count xs)
  where
    longer : (b : Bool) (m n : ℕ) → m ≡ min count n → cond {A = ℕ} b (1 + m) 0 ≡ min (suc count) (cond {A = ℕ} b (1 + n) 0)
    longer true m n e = omega arith
    longer false m n e = omega arith

-- the first place of all is that among the first ones, where it is one of these
pub first_within : (p : ℕ → Bool) (count : ℕ) (xs : List ℕ) → count ≤ length xs → position_or_len p xs < count
    → Some (position_or_len p xs) ≡ position p (take count xs)
first_within p count xs few within =
    let same : position_or_len p (take count xs) ≡ position_or_len p xs = prefix_len-take (λ x. not (p x)) count xs ∙ omega arith in
    let lt : position_or_len p (take count xs) < length (take count xs) = omega (arith, length-take-le count xs few) in
    ap Some (sym same) ∙ sym (cond-true _ (Some (position_or_len p (take count xs))) None (lt-ltb _ _ lt))

-- and else there is none
pub first_past : (p : ℕ → Bool) (count : ℕ) (xs : List ℕ) → count ≤ length xs → count ≤ position_or_len p xs → None ≡ position p (take count xs)
first_past p count xs few past =
    let same : position_or_len p (take count xs) ≡ count = prefix_len-take (λ x. not (p x)) count xs ∙ omega arith in
    let le : length (take count xs) ≤ position_or_len p (take count xs) = omega (arith, length-take-le count xs few) in
    sym (cond-false _ (Some (position_or_len p (take count xs))) None (le-ltb _ _ le))
