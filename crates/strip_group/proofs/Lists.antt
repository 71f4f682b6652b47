-- Lists of numbers: their last element, and how often a number stands in one.
use Rattle.std.proofs.Common.{◌≡◌, ◌≢◌, ℕ, ◌+◌, ◌⊎◌, List, [], ◌∷◌, ◌++◌, All, refl, ap, ◌∙◌, inl, inr, arith}
use Rattle.std.proofs.lemmas.List.Elements.{All-head, All-tail, All-cons, All-nil}
use Rattle.strip_mask.proofs.Lists.{count, count-append, count_here, count_other}

-- one at the end
pub count_last : (x : ℕ) (xs : List ℕ) → count x (xs ++ x ∷ []) ≡ count x xs + 1
count_last x xs = count-append x xs (x ∷ []) ∙ (let one : count x (x ∷ []) ≡ 1 + 0 = count_here x [] in omega arith)

pub count_before : (x y : ℕ) (xs : List ℕ) → y ≢ x → count x (xs ++ y ∷ []) ≡ count x xs
count_before x y xs other = count-append x xs (y ∷ []) ∙ (let none : count x (y ∷ []) ≡ 0 = count_other x y [] other in omega arith)

-- a list is empty or has a last element
pub last_of : (xs : List ℕ) → (xs ≡ []) ⊎ ((begin : List ℕ) × (x : ℕ) × (xs ≡ begin ++ x ∷ []))
last_of [] = inl refl
last_of (x ∷ xs) = inr (elim (last_of xs) [
  | inl none ↦ ([], x, ap (λ (ys : List ℕ). x ∷ ys) none)
  | inr some ↦ (x ∷ some.0, some.1, ap (λ (ys : List ℕ). x ∷ ys) some.2)
])

-- what holds of each element of a list holds of each of its beginning, and of the last one
pub All-begin : (P : ℕ → Type 0) (xs ys : List ℕ) → All P (xs ++ ys) → All P xs
All-begin P [] ys all = All-nil P
All-begin P (x ∷ xs) ys all = All-cons P x xs (All-head P x (xs ++ ys) all) (All-begin P xs ys (All-tail P x (xs ++ ys) all))

pub All-last : (P : ℕ → Type 0) (xs : List ℕ) (y : ℕ) → All P (xs ++ y ∷ []) → P y
All-last P [] y all = All-head P y [] all
All-last P (x ∷ xs) y all = All-last P xs y (All-tail P x (xs ++ y ∷ []) all)
