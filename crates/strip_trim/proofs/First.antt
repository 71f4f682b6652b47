-- The first line of each set in a sorted list.
use Rattle.std.proofs.Common.{◌≡◌, ◌==◌, ℕ, zero, suc, ◌+◌, ◌<◌, ◌≤◌, Bool, true, false, List, [], ◌∷◌, length, All, Contains, get_or, inl, inr, refl, ap, sym, ◌∙◌, subst, arith}
use Rattle.std.specs.List.{dedup, dedup_from}
use Rattle.std.specs.List.Sorted.{IsStrictlyIncreasing, IsPermutation}
use Rattle.std.proofs.lemmas.Bool.{cond_both}
use Rattle.std.proofs.lemmas.Bool.Decides.{eqb_tells}
use Rattle.std.proofs.lemmas.List.Elements.{All-cons, All-nil, All-head, All-contains, All-contains_itself, Contains-get_or}
use Rattle.std.proofs.lemmas.List.{get_or_default}
use Rattle.std.proofs.lemmas.List.Kept.{Contains-from_dedup}
use Rattle.std.proofs.lemmas.List.Sorted.{Contains-permutation, IsPermutation-sym}
use Rattle.strip_model.proofs.Lists.{contains_here, contains_later, contains_cases, contains_none}
use Rattle.strip_film.specs.declared.shared.Line.{Line}
use Rattle.strip_lines.specs.Lines.{line_at}
use Rattle.strip_trim.specs.declared.best.BestLine.{BestLine}
use Rattle.strip_trim.specs.Best.{AreBestLines, ArePlaced, IsBestLine, no_best, sets_of}
use Rattle.strip_trim.proofs.Placed.{placed_line}
use Rattle.strip_trim.proofs.Sorted.{Before, IsSorted, Rise, before_far, before_itself, rise_from}

abbrev pub same_set : BestLine → BestLine → Bool
same_set x y = x.set == y.set

-- what is kept of a list that begins with k
record Kept (all kept : List BestLine) (least : ℕ) : Type 0 where
  above : All (λ z. least ≤ z.set) kept
  rising : IsStrictlyIncreasing (sets_of kept)
  firsts : All (λ z. (y : BestLine) → Contains all y → y.set ≡ z.set → Before z y) kept
  whole : (y : BestLine) → Contains all y → Contains (sets_of kept) y.set

rising_cons : (x : ℕ) (xs : List ℕ) → All (λ y. x < y) xs → IsStrictlyIncreasing xs → IsStrictlyIncreasing (x ∷ xs)
rising_cons x xs above rising zero within = above 0 0 (omega (arith, within))
rising_cons x xs above rising (suc i) within =
    let e : suc i + 1 ≡ suc (i + 1) = omega arith in
    subst (λ (n : ℕ). get_or xs i 0 < get_or (x ∷ xs) n 0) (sym e) (rising i (omega (arith, within)))

sets_above : (least : ℕ) (kept : List BestLine) → All (λ z. least < z.set) kept → All (λ set. least < set) (sets_of kept)
sets_above least [] above = All-nil (λ set. least < set)
sets_above least (z ∷ zs) above = All-cons (λ set. least < set) z.set (sets_of zs) (above 0 z (omega arith)) (sets_above least zs (λ i d within. above (suc i) d (omega (arith, within))))

-- a line with the set of the first is left out
kept_same : (k x : BestLine) (xs kept : List BestLine) → Before k x → x.set ≡ k.set → Kept (k ∷ xs) kept k.set → Kept (k ∷ x ∷ xs) kept k.set
kept_same k x xs kept before same is = record {
  above = is.above;
  rising = is.rising;
  firsts = λ i d within y there level. elim (contains_cases k (x ∷ xs) y there) [
    | inl first ↦ is.firsts i d within y (subst (Contains (k ∷ xs)) first (contains_here k xs)) level
    | inr later ↦ elim (contains_cases x xs y later) [
      | inl second ↦ (
          let e : x.set ≡ y.set = ap (λ (b : BestLine). b.set) second in
          let to_k : Before (get_or kept i d) k = is.firsts i d within k (contains_here k xs) (sym same ∙ (e ∙ level)) in
          subst (Before (get_or kept i d)) second (before_far (get_or kept i d) k x to_k before))
      | inr behind ↦ is.firsts i d within y (contains_later k xs y behind) level
    ]
  ];
  whole = λ y there. elim (contains_cases k (x ∷ xs) y there) [
    | inl first ↦ is.whole y (subst (Contains (k ∷ xs)) first (contains_here k xs))
    | inr later ↦ elim (contains_cases x xs y later) [
      | inl second ↦ (
          let e : x.set ≡ y.set = ap (λ (b : BestLine). b.set) second in
          subst (Contains (sets_of kept)) (sym same ∙ e) (is.whole k (contains_here k xs)))
      | inr behind ↦ is.whole y (contains_later k xs y behind)
    ]
  ];
}

-- where the next has a greater set, the first is kept
kept_first : (k x : BestLine) (xs kept : List BestLine) → All (Before k) (x ∷ xs) → k.set < x.set → Kept (x ∷ xs) kept x.set → Kept (k ∷ x ∷ xs) (k ∷ kept) k.set
kept_first k x xs kept before less is = record {
  above = All-cons (λ z. k.set ≤ z.set) k kept (omega arith) (λ i d within. (let e = is.above i d within in omega (arith, e, less)));
  rising = rising_cons k.set (sets_of kept) (sets_above k.set kept (λ i d within. (let e = is.above i d within in omega (arith, e, less)))) is.rising;
  firsts = All-cons (λ z. (y : BestLine) → Contains (k ∷ x ∷ xs) y → y.set ≡ z.set → Before z y) k kept
      (λ y there _. elim (contains_cases k (x ∷ xs) y there) [
        | inl first ↦ subst (Before k) first (before_itself k)
        | inr later ↦ All-contains (Before k) (x ∷ xs) y before later
      ])
      (λ i d within y there level. elim (contains_cases k (x ∷ xs) y there) [
        | inl first ↦ absurd (let e : k.set ≡ y.set = ap (λ (b : BestLine). b.set) first in let low = is.above i d within in omega (arith, e, level, low, less))
        | inr later ↦ is.firsts i d within y later level
      ]);
  whole = λ y there. elim (contains_cases k (x ∷ xs) y there) [
    | inl first ↦ subst (Contains (sets_of (k ∷ kept))) (ap (λ (b : BestLine). b.set) first) (contains_here k.set (sets_of kept))
    | inr later ↦ contains_later k.set (sets_of kept) y.set (is.whole y later)
  ];
}

kept_from : (k : BestLine) (xs : List BestLine) → Rise (k ∷ xs) → Kept (k ∷ xs) (dedup_from same_set k xs) k.set
kept_from k [] rise = record {
  above = All-cons (λ z. k.set ≤ z.set) k [] (omega arith) (All-nil (λ z. k.set ≤ z.set));
  rising = λ i within. absurd (omega (arith, within));
  firsts = All-cons (λ z. (y : BestLine) → Contains (k ∷ []) y → y.set ≡ z.set → Before z y) k []
      (λ y there _. elim (contains_cases k [] y there) [
        | inl first ↦ subst (Before k) first (before_itself k)
        | inr none ↦ absurd (contains_none y none)
      ])
      (All-nil (λ z. (y : BestLine) → Contains (k ∷ []) y → y.set ≡ z.set → Before z y));
  whole = λ y there. elim (contains_cases k [] y there) [
    | inl first ↦ subst (Contains (k.set ∷ [])) (ap (λ (b : BestLine). b.set) first) (contains_here k.set [])
    | inr none ↦ absurd (contains_none y none)
  ];
}
kept_from k (x ∷ xs) rise =
    cond_both (same_set x k) (dedup_from same_set k xs) (k ∷ dedup_from same_set x xs) (λ kept. Kept (k ∷ x ∷ xs) kept k.set)
    (λ same. elim (eqb_tells x.set k.set) [
      | inl equal ↦ kept_same k x xs (dedup_from same_set k xs) next equal.1 (kept_from k xs (λ i d within. rise.0 (suc i) d (omega (arith, within)), rise.1.1))
      | inr apart ↦ absurd (let e : true ≡ false = sym same ∙ apart.0 in cc)
    ])
    (λ other. elim (eqb_tells x.set k.set) [
      | inl equal ↦ absurd (let e : true ≡ false = sym equal.0 ∙ other in cc)
      | inr apart ↦ kept_first k x xs (dedup_from same_set x xs) rise.0 (less apart.1) (kept_from x xs rise.1)
    ])
  where
    next : Before k x
    next = All-head (Before k) x xs rise.0

    less : (x.set ≡ k.set → ⊥) → k.set < x.set
    less apart = omega (arith, next.set, apart)

kept_all : (sorted : List BestLine) → Rise sorted → Kept sorted (dedup same_set sorted) 0
kept_all [] rise = record {
  above = All-nil (λ z. 0 ≤ z.set);
  rising = λ i within. absurd (omega (arith, within));
  firsts = All-nil (λ z. (y : BestLine) → Contains [] y → y.set ≡ z.set → Before z y);
  whole = λ y there. absurd (contains_none y there);
}
kept_all (k ∷ xs) rise =
    let is = kept_from k xs rise in record { above = λ i d within. omega arith; rising = is.rising; firsts = is.firsts; whole = is.whole }

-- each line's place stands in the list of lines with their places
placed_there : (lines : List Line) (placed : List BestLine) → ArePlaced lines placed → (place : ℕ) → place < length lines → Contains placed (placed_line place (line_at lines place))
placed_there lines placed are place lt =
    subst (Contains placed) (are.each place lt) (Contains-get_or placed place no_best (omega (arith, lt, are.count)))

-- what is kept of the sorted lines is the best lines
pub best_from : (lines : List Line) (placed sorted kept : List BestLine) → ArePlaced lines placed → IsPermutation placed sorted → IsSorted sorted
    → kept ≡ dedup same_set sorted → AreBestLines lines kept
best_from lines placed sorted kept are permuted in_order is = subst (AreBestLines lines) (sym is) (record {
  rising = all.rising;
  each = λ i d within. best (get_or firsts i d)
      (Contains-permutation sorted placed (get_or firsts i d) (IsPermutation-sym placed sorted permuted)
      (Contains-from_dedup same_set sorted (get_or firsts i d) (All-contains_itself firsts i d within)))
      (all.firsts i d within);
  whole = λ place lt. all.whole (placed_line place (line_at lines place)) (there place lt);
})
  where
    firsts : List BestLine
    firsts = dedup same_set sorted

    all : Kept sorted firsts 0
    all = kept_all sorted (rise_from sorted in_order)

    there : (place : ℕ) → place < length lines → Contains sorted (placed_line place (line_at lines place))
    there place lt = Contains-permutation placed sorted (placed_line place (line_at lines place)) permuted (placed_there lines placed are place lt)

    best_here : (place : ℕ) → place < length lines
        → ((y : BestLine) → Contains sorted y → y.set ≡ (line_at lines place).set → Before (placed_line place (line_at lines place)) y)
        → IsBestLine lines (placed_line place (line_at lines place))
    best_here place lt first = record {
      within = lt;
      is = refl;
      greatest = λ other within same. (first (placed_line other (line_at lines other)) (there other within) same).bound (sym same);
      first = λ other earlier same. (let within : other < length lines = omega (arith, earlier, lt) in
          let before = first (placed_line other (line_at lines other)) (there other within) same in
          let no_tie : (line_at lines place).bound ≡ (line_at lines other).bound → ⊥ = λ level. omega (arith, before.line (sym same) level, earlier) in
          omega (arith, before.bound (sym same), no_tie));
    }

    best : (z : BestLine) → Contains placed z → ((y : BestLine) → Contains sorted y → y.set ≡ z.set → Before z y) → IsBestLine lines z
    best z (place, within, at) first =
        subst (λ (b : BestLine). ((y : BestLine) → Contains sorted y → y.set ≡ b.set → Before b y) → IsBestLine lines b) (sym placed_at) (best_here place lt) first
      where
        lt : place < length lines
        lt = omega (arith, within, are.count)

        placed_at : z ≡ placed_line place (line_at lines place)
        placed_at = sym at ∙ (get_or_default placed place z no_best within ∙ are.each place lt)
