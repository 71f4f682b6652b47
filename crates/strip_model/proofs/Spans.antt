-- The part of a list from the first number that passes to the last one.
use Rattle.std.proofs.Common.{◌≡◌, ℕ, ◌+◌, ◌<◌, ◌≤◌, Bool, true, false, cond, ◌||◌, List, [], ◌∷◌, ◌++◌, length, get_or, drop, reverse, sum_by, All, inl, inr, refl, sym, ap, ◌∙◌, arith}
use Rattle.std.specs.List.{list_any}
use Rattle.std.proofs.lemmas.Bool.{cases_Bool, or_parts}
use Rattle.std.proofs.lemmas.List.{reverse-append, reverse-reverse, drop_more}
use Rattle.std.proofs.lemmas.List.Elements.{All-nil, All-tail}
use Rattle.std.proofs.lemmas.List.Sorted.{IsPermutation-reverse, sum_by-IsPermutation}
use Rattle.std.proofs.lemmas.List.Sums.{sum_by-cons}
use Rattle.std.proofs.Math.Bool.{or_assoc, or_comm}
use Rattle.strip_model.specs.Pay.{from_first, to_last}

reverse-cons : (x : ℕ) (xs : List ℕ) → reverse (x ∷ xs) ≡ reverse xs ++ x ∷ []
reverse-cons x xs = reverse-append (x ∷ []) xs

pub any-push : (p : ℕ → Bool) (xs : List ℕ) (x : ℕ) → list_any p (xs ++ x ∷ []) ≡ (list_any p xs || p x)
any-push p [] x = or_comm (p x) false
any-push p (y ∷ ys) x = ap (λ (b : Bool). p y || b) (any-push p ys x) ∙ sym (or_assoc (p y) (list_any p ys) (p x))

pub any-reverse : (p : ℕ → Bool) (xs : List ℕ) → list_any p (reverse xs) ≡ list_any p xs
any-reverse p [] = refl
any-reverse p (x ∷ xs) =
    ap (list_any p) (reverse-cons x xs) ∙ any-push p (reverse xs) x ∙ ap (λ (b : Bool). b || p x) (any-reverse p xs) ∙ or_comm (list_any p xs) (p x)

from_first-push : (p : ℕ → Bool) (ys : List ℕ) (x : ℕ)
    → from_first p (ys ++ x ∷ []) ≡ cond (list_any p ys) (from_first p ys ++ x ∷ []) (cond (p x) (x ∷ []) [])
from_first-push p [] x = refl
from_first-push p (y ∷ ys) x =
    elim (p y) as (λ b. cond b (y ∷ (ys ++ x ∷ [])) (from_first p (ys ++ x ∷ [])) ≡ cond (b || list_any p ys) (cond b (y ∷ ys) (from_first p ys) ++ x ∷ []) (cond (p x) (x ∷ []) [])) [
      | true ↦ refl
      | false ↦ from_first-push p ys x
    ]

pub from_first-none : (p : ℕ → Bool) (xs : List ℕ) → list_any p xs ≡ false → from_first p xs ≡ []
from_first-none p [] none = refl
from_first-none p (x ∷ xs) none =
    let parts : (p x ≡ false) × (list_any p xs ≡ false) = or_parts (p x) (list_any p xs) none in
    rw parts.0 (from_first-none p xs parts.1)

pub to_last-none : (p : ℕ → Bool) (xs : List ℕ) → list_any p xs ≡ false → to_last p xs ≡ []
to_last-none p xs none = ap reverse (from_first-none p (reverse xs) (any-reverse p xs ∙ none))

-- the list up to the last that passes, from the front
by_tests : (x : ℕ) (front last : List ℕ) (a b : Bool) → reverse front ≡ last → (b ≡ false → last ≡ [])
    → reverse (cond b (front ++ x ∷ []) (cond a (x ∷ []) [])) ≡ cond (a || b) (x ∷ last) []
by_tests x front last true true turned none = reverse-append front (x ∷ []) ∙ ap (λ (ys : List ℕ). x ∷ ys) turned
by_tests x front last false true turned none = reverse-append front (x ∷ []) ∙ ap (λ (ys : List ℕ). x ∷ ys) turned
by_tests x front last true false turned none = ap (λ (ys : List ℕ). x ∷ ys) (sym (none refl))
by_tests x front last false false turned none = refl

pub to_last-cons : (p : ℕ → Bool) (x : ℕ) (xs : List ℕ) → to_last p (x ∷ xs) ≡ cond (p x || list_any p xs) (x ∷ to_last p xs) []
to_last-cons p x xs =
    ap (λ (ys : List ℕ). reverse (from_first p ys)) (reverse-cons x xs)
    ∙ ap reverse (from_first-push p (reverse xs) x)
    ∙ ap (λ (b : Bool). reverse (cond b (from_first p (reverse xs) ++ x ∷ []) (cond (p x) (x ∷ []) []))) (any-reverse p xs)
    ∙ by_tests x (from_first p (reverse xs)) (to_last p xs) (p x) (list_any p xs) refl (to_last-none p xs)

-- ---- the parts as they grow

-- an element that fails stands before the first that passes
pub from_first-drop_no : (p : ℕ → Bool) (xs : List ℕ) (i : ℕ) → i < length xs → p (get_or xs i 0) ≡ false
    → from_first p (drop i xs) ≡ from_first p (drop (i + 1) xs)
from_first-drop_no p xs i lt fails =
    let e : drop i xs ≡ get_or xs i 0 ∷ drop (i + 1) xs = drop_more xs i 0 lt in
    rw (e, fails) refl

-- an element that passes begins the list
pub from_first-drop_yes : (p : ℕ → Bool) (xs : List ℕ) (i : ℕ) → i < length xs → p (get_or xs i 0) ≡ true
    → from_first p (drop i xs) ≡ drop i xs
from_first-drop_yes p xs i lt passes =
    let e : drop i xs ≡ get_or xs i 0 ∷ drop (i + 1) xs = drop_more xs i 0 lt in
    rw (e, passes) refl

reversed : (xs : List ℕ) (x : ℕ) → reverse (xs ++ x ∷ []) ≡ x ∷ reverse xs
reversed xs x = reverse-append xs (x ∷ [])

-- the list up to the last that passes, as the list grows at its end
pub to_last-push_yes : (p : ℕ → Bool) (xs : List ℕ) (x : ℕ) → p x ≡ true → to_last p (xs ++ x ∷ []) ≡ xs ++ x ∷ []
to_last-push_yes p xs x passes =
    let e : from_first p (reverse (xs ++ x ∷ [])) ≡ reverse (xs ++ x ∷ []) = rw (reversed xs x, passes) refl in
    ap reverse e ∙ reverse-reverse (xs ++ x ∷ [])

pub to_last-push_no : (p : ℕ → Bool) (xs : List ℕ) (x : ℕ) → p x ≡ false → to_last p (xs ++ x ∷ []) ≡ to_last p xs
to_last-push_no p xs x fails =
    let e : from_first p (reverse (xs ++ x ∷ [])) ≡ from_first p (reverse xs) = rw (reversed xs x, fails) refl in
    ap reverse e

-- what the list from the first that passes on keeps of the whole list
pub All-from_first : (p : ℕ → Bool) (P : ℕ → Type 0) (xs : List ℕ) → All P xs → All P (from_first p xs)
All-from_first p P [] all = All-nil P
All-from_first p P (x ∷ xs) all =
    elim (p x) as (λ b. All P (cond b (x ∷ xs) (from_first p xs))) [ true ↦ all | false ↦ All-from_first p P xs (All-tail P x xs all) ]

pub length-from_first : (p : ℕ → Bool) (xs : List ℕ) → length (from_first p xs) ≤ length xs
length-from_first p [] = omega arith
length-from_first p (x ∷ xs) =
    elim (p x) as (λ b. length (cond b (x ∷ xs) (from_first p xs)) ≤ length (x ∷ xs)) [ true ↦ omega arith | false ↦ omega (arith, length-from_first p xs) ]

-- ---- the list turned round

pub reverse-sum : (f : ℕ → ℕ) (xs : List ℕ) → sum_by f (reverse xs) ≡ sum_by f xs
reverse-sum f xs = sum_by-IsPermutation f xs (reverse xs) (IsPermutation-reverse xs)

-- the first and the last that pass can be looked for in either order
pub first_of_last : (p : ℕ → Bool) (xs : List ℕ) → from_first p (to_last p xs) ≡ to_last p (from_first p xs)
first_of_last p [] = refl
first_of_last p (x ∷ xs) = ap (from_first p) (to_last-cons p x xs) ∙ by_test (p x) refl (first_of_last p xs)
  where
    by_test : (b : Bool) → p x ≡ b → from_first p (to_last p xs) ≡ to_last p (from_first p xs)
        → from_first p (cond (b || list_any p xs) (x ∷ to_last p xs) []) ≡ to_last p (cond b (x ∷ xs) (from_first p xs))
    by_test true is rest = rw is (sym (to_last-cons p x xs ∙ rw is refl))
    by_test false is rest = elim (cases_Bool (list_any p xs)) [
      | inl some ↦ rw (some, is) rest
      | inr none ↦ rw (none, from_first-none p xs none) refl
    ]

pub sum-span_reverse : (p : ℕ → Bool) (f : ℕ → ℕ) (xs : List ℕ)
    → sum_by f (to_last p (from_first p (reverse xs))) ≡ sum_by f (to_last p (from_first p xs))
sum-span_reverse p f xs =
    let inner : from_first p (reverse xs) ≡ reverse (to_last p xs) = sym (reverse-reverse (from_first p (reverse xs))) in
    let turned : reverse (from_first p (reverse xs)) ≡ to_last p xs = refl in
    ap (λ (ys : List ℕ). sum_by f (reverse (from_first p ys))) turned
    ∙ reverse-sum f (from_first p (to_last p xs)) ∙ ap (sum_by f) (first_of_last p xs)

-- ---- a part is at most the whole

pub sum-from_first : (p : ℕ → Bool) (f : ℕ → ℕ) (xs : List ℕ) → sum_by f (from_first p xs) ≤ sum_by f xs
sum-from_first p f [] = omega arith
sum-from_first p f (x ∷ xs) =
    elim (p x) as (λ b. sum_by f (cond b (x ∷ xs) (from_first p xs)) ≤ sum_by f (x ∷ xs)) [
      | true ↦ omega arith
      | false ↦ omega (arith, sum-from_first p f xs, sum_by-cons f x xs)
    ]

pub sum-to_last : (p : ℕ → Bool) (f : ℕ → ℕ) (xs : List ℕ) → sum_by f (to_last p xs) ≤ sum_by f xs
sum-to_last p f xs = omega (arith, reverse-sum f (from_first p (reverse xs)), sum-from_first p f (reverse xs), reverse-sum f xs)

pub sum-span : (p : ℕ → Bool) (f : ℕ → ℕ) (xs : List ℕ) → sum_by f (to_last p (from_first p xs)) ≤ sum_by f xs
sum-span p f xs = omega (arith, sum-to_last p f (from_first p xs), sum-from_first p f xs)
