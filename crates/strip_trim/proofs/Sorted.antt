-- Lines with their places, sorted by set, then by falling bound, then by place.
use Rattle.std.proofs.Common.{◌≡◌, ℕ, suc, ◌+◌, ◌<◌, ◌≤◌, true, false, List, [], ◌∷◌, length, All, get_or, inl, inr, subst, arith}
use Rattle.std.specs.Cmp.{nat_cmp_is}
use Rattle.std.proofs.lemmas.Bool.{cases_eq, cases_lt}
use Rattle.std.specs.Ordering.{is_lt, ordering_then, nat_cmp, MatchOrdering}
use Rattle.std.specs.declared.cmp.Ordering.{Ordering}
use Rattle.std.specs.declared.cmp.Ordering.TheVariants.{Less, Equal, Greater}
use Rattle.std.proofs.lemmas.List.Elements.{All-cons, All-nil}
use Rattle.strip_trim.specs.declared.best.BestLine.{BestLine}

-- the first goes before the second, or is the same: its set is lesser, or its bound greater, or its place lesser
pub record Before (x y : BestLine) : Type 0 where
  pub set : x.set ≤ y.set
  pub bound : x.set ≡ y.set → y.bound ≤ x.bound
  pub line : x.set ≡ y.set → x.bound ≡ y.bound → x.line ≤ y.line

pub before_itself : (x : BestLine) → Before x x
before_itself x = record { set = omega arith; bound = λ _. omega arith; line = λ _ _. omega arith }

pub before_far : (x y z : BestLine) → Before x y → Before y z → Before x z
before_far x y z first second = record {
  set = omega (arith, first.set, second.set);
  bound = λ same. (let a : x.set ≡ y.set = omega (arith, same, first.set, second.set) in
      let b : y.set ≡ z.set = omega (arith, same, first.set, second.set) in
      omega (arith, first.bound a, second.bound b));
  line = λ same level. (let a : x.set ≡ y.set = omega (arith, same, first.set, second.set) in
      let b : y.set ≡ z.set = omega (arith, same, first.set, second.set) in
      let p : x.bound ≡ y.bound = omega (arith, level, first.bound a, second.bound b) in
      let q : y.bound ≡ z.bound = omega (arith, level, first.bound a, second.bound b) in
      omega (arith, first.line a p, second.line b q));
}

-- how the keys of two lines compare, the later one first
abbrev pub compared : BestLine → BestLine → Ordering
compared x y = ordering_then (ordering_then (nat_cmp x.set y.set) (nat_cmp y.bound x.bound)) (nat_cmp x.line y.line)

ranks : (x y : ℕ) → MatchOrdering (nat_cmp x y) (x < y) (x ≡ y) (y < x)
ranks x y = elim (cases_lt x y) [
  | inl less ↦ is Less less
  | inr more ↦ elim (cases_eq x y) [
    | inl same ↦ is Equal same
    | inr apart ↦ is Greater (omega (arith, more, apart))
  ]
]
  where
    is : (r : Ordering) → MatchOrdering r (x < y) (x ≡ y) (y < x) → MatchOrdering (nat_cmp x y) (x < y) (x ≡ y) (y < x)
    is r holds = subst (λ (o : Ordering). MatchOrdering o (x < y) (x ≡ y) (y < x)) (nat_cmp_is x y r holds) holds

before_by : (x y : BestLine) (a b c : Ordering) → MatchOrdering a (y.set < x.set) (y.set ≡ x.set) (x.set < y.set)
    → MatchOrdering b (x.bound < y.bound) (x.bound ≡ y.bound) (y.bound < x.bound) → MatchOrdering c (y.line < x.line) (y.line ≡ x.line) (x.line < y.line)
    → is_lt (ordering_then (ordering_then a b) c) ≡ false → Before x y
before_by x y Less b c s t u not_less = absurd (let e : true ≡ false = not_less in cc)
before_by x y Greater b c s t u not_less = record { set = omega (arith, s); bound = λ same. omega (arith, s, same); line = λ same _. omega (arith, s, same) }
before_by x y Equal Less c s t u not_less = absurd (let e : true ≡ false = not_less in cc)
before_by x y Equal Greater c s t u not_less = record { set = omega (arith, s); bound = λ _. omega (arith, t); line = λ _ level. omega (arith, t, level) }
before_by x y Equal Equal Less s t u not_less = absurd (let e : true ≡ false = not_less in cc)
before_by x y Equal Equal Equal s t u not_less = record { set = omega (arith, s); bound = λ _. omega (arith, t); line = λ _ _. omega (arith, u) }
before_by x y Equal Equal Greater s t u not_less = record { set = omega (arith, s); bound = λ _. omega (arith, t); line = λ _ _. omega (arith, u) }

before_from : (x y : BestLine) → is_lt (compared y x) ≡ false → Before x y
before_from x y not_less = before_by x y (nat_cmp y.set x.set) (nat_cmp x.bound y.bound) (nat_cmp y.line x.line)
    (ranks y.set x.set) (ranks x.bound y.bound) (ranks y.line x.line) not_less

-- no line compares less than the one before it
abbrev pub IsSorted : List BestLine → Type 0
IsSorted xs = (i : ℕ) (d : BestLine) → 0 ≤ i → i + 1 < length xs → is_lt (compared (get_or xs (i + 1) d) (get_or xs i d)) ≡ false

-- each goes before all behind it
abbrev pub Rise : List BestLine → Type 0
Rise [] = Unit {0}
Rise (x ∷ xs) = All (Before x) xs × Rise xs

sorted_tail : (x : BestLine) (xs : List BestLine) → IsSorted (x ∷ xs) → IsSorted xs
sorted_tail x xs sorted i d low within =
    let e : suc i + 1 ≡ suc (i + 1) = omega arith in
    subst (λ (n : ℕ). is_lt (compared (get_or (x ∷ xs) n d) (get_or xs i d)) ≡ false) e (sorted (suc i) d (omega arith) (omega (arith, within)))

before_all : (x : BestLine) (xs : List BestLine) → IsSorted (x ∷ xs) → All (Before x) xs
before_all x [] sorted = All-nil (Before x)
before_all x (y ∷ ys) sorted = All-cons (Before x) y ys next
    (λ i d within. before_far x y (get_or ys i d) next (before_all y ys (sorted_tail x (y ∷ ys) sorted) i d within))
  where
    next : Before x y
    next = before_from x y (sorted 0 x (omega arith) (omega arith))

pub rise_from : (xs : List BestLine) → IsSorted xs → Rise xs
rise_from [] sorted = tt
rise_from (x ∷ xs) sorted = (before_all x xs sorted, rise_from xs (sorted_tail x xs sorted))
