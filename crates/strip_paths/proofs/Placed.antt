-- A path that is put among others: at their end, or at the place of the one that leaves the same set.
use Rattle.std.proofs.Common.{◌≡◌, ℕ, zero, suc, ◌<◌, ◌≤◌, ◌==◌, Bool, true, false, cond, ltb, List, [], ◌∷◌, ◌++◌, length, map, get_or, set, Some, None, inl, inr, refl, sym, ap, ◌∙◌, arith}
use Rattle.std.specs.List.{position, position_or_len}
use Rattle.std.proofs.lemmas.Bool.{cases_lt, cond-false, cond-true, eqb-true, lt-ltb, le-ltb}
use Rattle.std.proofs.lemmas.List.{get_or_default, get_or-map, length-map}
use Rattle.std.proofs.lemmas.List.Quantifiers.{position-Some}
use Rattle.std.proofs.lemmas.List.Sums.{fails_before_first}
use Rattle.std.proofs.Math.Seq.{map-set_same}
use Rattle.strip_film.specs.declared.path.Path.{Path}
use Rattle.strip_film.specs.Path.{PathData}
use Rattle.strip_film.specs.Shown.{path_data}
use Rattle.strip_paths.specs.Paths.{with_path}

-- the path leaves this set
abbrev pub leaves : ℕ → PathData → Bool
leaves rest path = path.rest == rest

-- without a first place none leaves the set
pub none_leaves : (rest : ℕ) (paths : List PathData) → position (leaves rest) paths ≡ None → (k : ℕ) (d : PathData) → k < length paths → leaves rest (get_or paths k d) ≡ false
none_leaves rest paths none k d within = elim (cases_lt (position_or_len (leaves rest) paths) (length paths)) [
  | inl lt ↦ absurd (let here : position (leaves rest) paths ≡ Some (position_or_len (leaves rest) paths)
      = cond-true (ltb (position_or_len (leaves rest) paths) (length paths)) (Some (position_or_len (leaves rest) paths)) None (lt-ltb (position_or_len (leaves rest) paths) (length paths) lt) in cc)
  | inr le ↦ fails_before_first (leaves rest) paths k d (omega (arith, within, le))
]

-- what stands at the place of the first one, where that leaves what the path leaves
abbrev cheaper : PathData → PathData → List PathData → List PathData
cheaper other path paths = cond (ltb path.paid other.paid) path other ∷ paths

with_end : (paths : List PathData) (path : PathData) → ((k : ℕ) (d : PathData) → k < length paths → leaves path.rest (get_or paths k d) ≡ false)
    → paths ++ path ∷ [] ≡ with_path paths path
with_end [] path none = refl
with_end (other ∷ paths) path none =
    ap (λ (xs : List PathData). other ∷ xs) (with_end paths path (λ k d within. none (suc k) d (omega (arith, within))))
    ∙ sym (cond-false (leaves path.rest other) (cheaper other path paths) (other ∷ with_path paths path) (none 0 other (omega arith)))

pub put_end : (paths : List PathData) (path : PathData) (rest : ℕ) → rest ≡ path.rest → position (leaves rest) paths ≡ None → paths ++ path ∷ [] ≡ with_path paths path
put_end paths path rest is none = with_end paths path (none_leaves path.rest paths (ap (λ (q : ℕ). position (leaves q) paths) (sym is) ∙ none))

-- the paths with this one at a place
abbrev IsPlace : PathData → ℕ → List PathData → Type 0
IsPlace path place paths =
    (place < length paths) × ((d : PathData) → leaves path.rest (get_or paths place d) ≡ true)
    × ((k : ℕ) (d : PathData) → k < place → leaves path.rest (get_or paths k d) ≡ false)

with_same : (paths : List PathData) (path : PathData) (place : ℕ) → IsPlace path place paths
    → ((d : PathData) → (get_or paths place d).paid ≤ path.paid) → paths ≡ with_path paths path
with_same [] path place at more = absurd (omega (arith, at.0))
with_same (other ∷ paths) path zero at more =
    ap (λ (p : PathData). p ∷ paths) (sym (cond-false (ltb path.paid other.paid) path other (le-ltb path.paid other.paid (more other))))
    ∙ sym (cond-true (leaves path.rest other) (cheaper other path paths) (other ∷ with_path paths path) (at.1 other))
with_same (other ∷ paths) path (suc place) at more =
    ap (λ (xs : List PathData). other ∷ xs)
    (with_same paths path place (omega (arith, at.0), at.1, λ k d before. at.2 (suc k) d (omega (arith, before))) more)
    ∙ sym (cond-false (leaves path.rest other) (cheaper other path paths) (other ∷ with_path paths path) (at.2 0 other (omega arith)))

with_cheaper : (paths : List PathData) (path : PathData) (place : ℕ) → IsPlace path place paths
    → ((d : PathData) → path.paid < (get_or paths place d).paid) → set paths place path ≡ with_path paths path
with_cheaper [] path place at less = absurd (omega (arith, at.0))
with_cheaper (other ∷ paths) path zero at less =
    ap (λ (p : PathData). p ∷ paths) (sym (cond-true (ltb path.paid other.paid) path other (lt-ltb path.paid other.paid (less other))))
    ∙ sym (cond-true (leaves path.rest other) (cheaper other path paths) (other ∷ with_path paths path) (at.1 other))
with_cheaper (other ∷ paths) path (suc place) at less =
    ap (λ (xs : List PathData). other ∷ xs)
    (with_cheaper paths path place (omega (arith, at.0), at.1, λ k d before. at.2 (suc k) d (omega (arith, before))) less)
    ∙ sym (cond-false (leaves path.rest other) (cheaper other path paths) (other ∷ with_path paths path) (at.2 0 other (omega arith)))

module _ (paths : List PathData) (path : PathData) (rest place : ℕ) (is : rest ≡ path.rest) (some : position (leaves rest) paths ≡ Some place) where
  found : position (leaves path.rest) paths ≡ Some place
  found = ap (λ (q : ℕ). position (leaves q) paths) (sym is) ∙ some

  pub place_within : place < length paths
  place_within = (position-Some (leaves path.rest) paths place path found).0

  is_place : IsPlace path place paths
  is_place = (
    place_within,
    (λ d. (position-Some (leaves path.rest) paths place d found).1),
    (λ k d before. (position-Some (leaves path.rest) paths place d found).2 k before),
  )

  -- what the path leaves stays where it was
  pub same_rests : map (λ (p : PathData). p.rest) (set paths place path) ≡ map (λ (p : PathData). p.rest) paths
  same_rests = map-set_same (λ (p : PathData). p.rest) paths place path path (sym (eqb-true (get_or paths place path).rest path.rest (is_place.1 path)))

  module _ (there : PathData) (stands : there ≡ get_or paths place there) where
    there_paid : (d : PathData) → (get_or paths place d).paid ≡ there.paid
    there_paid d = ap (λ (p : PathData). p.paid) (get_or_default paths place d there place_within ∙ sym stands)

    pub put_nowhere : there.paid ≤ path.paid → paths ≡ with_path paths path
    put_nowhere more = with_same paths path place is_place (λ d. omega (arith, more, there_paid d))

    pub put_there : path.paid < there.paid → set paths place path ≡ with_path paths path
    put_there less = with_cheaper paths path place is_place (λ d. omega (arith, less, there_paid d))

-- the path at a place, as it is seen
pub stands : (items : List Path) (there : Path) (path : PathData) (rest place : ℕ) → rest ≡ path.rest → position (leaves rest) (map path_data items) ≡ Some place
    → there ≡ get_or items place there → path_data there ≡ get_or (map path_data items) place (path_data there)
stands items there path rest place is some at =
    ap path_data at
    ∙ sym (get_or-map path_data items place there (path_data there)
    (omega (arith, place_within (map path_data items) path rest place is some, length-map items path_data)))
