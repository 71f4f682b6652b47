-- The places of the best lines.
use Rattle.std.proofs.Common.{◌≡◌, ℕ, zero, suc, ◌<◌, ◌≤◌, ◌⊎◌, List, [], ◌∷◌, length, Contains, None, get_or, inl, inr, refl, ap, sym, ◌∙◌, arith}
use Rattle.std.proofs.lemmas.Bool.{cases_eq, cases_lt}
use Rattle.std.proofs.lemmas.List.{get_or_default, get_or-map, length-map}
use Rattle.strip_film.specs.declared.shared.Line.{Line}
use Rattle.strip_lines.specs.Lines.{line_at}
use Rattle.strip_trim.specs.declared.best.BestLine.{BestLine}
use Rattle.strip_trim.specs.Best.{AreBestLines, IsBestLine, IsPlaceOf, best_at, best_bound, no_best, sets_of}
use Rattle.strip_trim.proofs.BestKnown.{bound_best, bound_none}
use Rattle.strip_trim.specs.Marks.{IsBestOf}

-- ---- a set has a best line where a line has it

later : (line : Line) (lines : List Line) (set place : ℕ) → (line.set ≡ set → line.bound < (line_at lines place).bound) → IsBestOf lines set place
    → IsBestOf (line ∷ lines) set (suc place)
later line lines set place less (best, is) = (
  record {
    within = omega (arith, best.within);
    is = refl;
    greatest = greatest;
    first = first;
  },
  is,
)
  where
    greatest : (other : ℕ) → other < length (line ∷ lines) → (line_at (line ∷ lines) other).set ≡ (line_at lines place).set
        → (line_at (line ∷ lines) other).bound ≤ (line_at lines place).bound
    greatest zero within same = omega (arith, less (same ∙ is))
    greatest (suc other) within same = best.greatest other (omega (arith, within)) same

    first : (other : ℕ) → other < suc place → (line_at (line ∷ lines) other).set ≡ (line_at lines place).set
        → (line_at (line ∷ lines) other).bound < (line_at lines place).bound
    first zero within same = less (same ∙ is)
    first (suc other) within same = best.first other (omega (arith, within)) same

here : (line : Line) (lines : List Line) (set : ℕ) → line.set ≡ set
    → ((place : ℕ) → place < length lines → (line_at lines place).set ≡ set → (line_at lines place).bound ≤ line.bound)
    → IsBestOf (line ∷ lines) set 0
here line lines set is no_more = (
  record { within = omega arith; is = refl; greatest = greatest; first = λ other lt. absurd (omega (arith, lt)) },
  is,
)
  where
    greatest : (other : ℕ) → other < length (line ∷ lines) → (line_at (line ∷ lines) other).set ≡ line.set → (line_at (line ∷ lines) other).bound ≤ line.bound
    greatest zero within same = omega arith
    greatest (suc other) within same = no_more other (omega (arith, within)) (same ∙ is)

-- some line is the best of the set, or none has it
pub best_or_none : (lines : List Line) (set : ℕ)
    → ((place : ℕ) × IsBestOf lines set place) ⊎ ((place : ℕ) → place < length lines → (line_at lines place).set ≡ set → ⊥)
best_or_none [] set = inr (λ place lt. absurd (omega (arith, lt)))
best_or_none (line ∷ lines) set = elim (cases_eq line.set set) [
  | inl same ↦ elim (best_or_none lines set) [
    | inl (place, best) ↦ elim (cases_lt line.bound (line_at lines place).bound) [
      | inl less ↦ inl (suc place, later line lines set place (λ _. less) best)
      | inr more ↦ inl (
        0,
        here line lines set same
            (λ other within is. (let e = best.0.greatest other within (is ∙ sym best.1) in omega (arith, e, more))),
      )
    ]
    | inr none ↦ inl (0, here line lines set same (λ other within is. absurd (none other within is)))
  ]
  | inr apart ↦ elim (best_or_none lines set) [
    | inl (place, best) ↦ inl (suc place, later line lines set place (λ same. absurd (apart same)) best)
    | inr none ↦ inr (not_behind apart none)
  ]
]
  where
    not_behind : (line.set ≡ set → ⊥) → ((place : ℕ) → place < length lines → (line_at lines place).set ≡ set → ⊥)
        → (place : ℕ) → place < length (line ∷ lines) → (line_at (line ∷ lines) place).set ≡ set → ⊥
    not_behind apart none zero within is = apart is
    not_behind apart none (suc place) within is = none place (omega (arith, within)) is

-- a set with a bound above 0 has a best line
pub best_of_some : (lines : List Line) (set : ℕ) → 0 < best_bound lines set → (place : ℕ) × IsBestOf lines set place
best_of_some lines set some = elim (best_or_none lines set) [
  | inl best ↦ best
  | inr none ↦ absurd (let e = bound_none lines set none in omega (arith, e, some))
]

-- a set has one best line
pub one_best : (lines : List Line) (set place other : ℕ) → IsBestOf lines set place → IsBestOf lines set other → place ≡ other
one_best lines set place other one two = elim (cases_lt place other) [
  | inl before ↦ absurd (
      let less = two.0.first place before (one.1 ∙ sym two.1) in
      let more = one.0.greatest other two.0.within (two.1 ∙ sym one.1) in
      omega (arith, less, more))
  | inr behind ↦ elim (cases_eq place other) [
    | inl same ↦ same
    | inr apart ↦ absurd (
        let less = one.0.first other (omega (arith, behind, apart)) (two.1 ∙ sym one.1) in
        let more = two.0.greatest place one.0.within (one.1 ∙ sym two.1) in
        omega (arith, less, more))
  ]
]

pub bound_at : (lines : List Line) (set place : ℕ) → IsBestOf lines set place → (line_at lines place).bound ≡ best_bound lines set
bound_at lines set place (best, is) =
    bound_best lines (record { line = place; set = (line_at lines place).set; bound = (line_at lines place).bound }) best ∙ ap (best_bound lines) is

-- ---- the entries of the best lines

pub best_of_entry : (lines : List Line) (entry : BestLine) → IsBestLine lines entry → IsBestOf lines entry.set entry.line
best_of_entry lines entry best = (
  record {
    within = best.within;
    is = refl;
    greatest = λ other within same. (let e = best.greatest other within (same ∙ set) in omega (arith, e, bound));
    first = λ other within same. (let e = best.first other within (same ∙ set) in omega (arith, e, bound));
  },
  set,
)
  where
    set : (line_at lines entry.line).set ≡ entry.set
    set = ap (λ (l : Line). l.set) best.is

    bound : (line_at lines entry.line).bound ≡ entry.bound
    bound = ap (λ (l : Line). l.bound) best.is

module _ (lines : List Line) (entries : List BestLine) (are : AreBestLines lines entries) where
  -- each set that stands in a line has an entry
  entry_of_set : {set other : ℕ} → Contains (sets_of entries) other → other ≡ set → (k : ℕ) × (k < length entries) × ((best_at entries k).set ≡ set)
  entry_of_set {set} {other} (k, within, at) is =
      let lt : k < length entries = omega (arith, within, length-map entries (λ (best : BestLine). best.set)) in
      let read : get_or (sets_of entries) k 0 ≡ (best_at entries k).set = get_or-map (λ (best : BestLine). best.set) entries k no_best 0 lt in
      (k, lt, sym read ∙ (get_or_default (sets_of entries) k 0 other within ∙ (at ∙ is)))

  pub entry_of : (set place : ℕ) → IsBestOf lines set place → (k : ℕ) × (k < length entries) × ((best_at entries k).set ≡ set) × ((best_at entries k).line ≡ place)
  entry_of set place best =
      let found = entry_of_set {set = set} (are.whole place best.0.within) best.1 in
      let entry : IsBestOf lines (best_at entries found.0).set (best_at entries found.0).line
      = best_of_entry lines (best_at entries found.0) (are.each found.0 no_best found.1) in
      (found.0, found.1, found.2, one_best lines set (best_at entries found.0).line place (entry.0, entry.1 ∙ found.2) best)

  pub no_entry : (set place : ℕ) → IsPlaceOf entries set None → IsBestOf lines set place → ⊥
  no_entry set place none best = let found = entry_of set place best in none found.0 found.1 found.2
