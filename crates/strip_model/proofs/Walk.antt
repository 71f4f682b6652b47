-- What an actor is paid, scene by scene, for any value of his scenes.
use Rattle.std.proofs.Common.{◌≡◌, ℕ, ◌+◌, Bool, true, false, cond, ◌&&◌, ◌||◌, List, [], ◌∷◌, sum_by, refl, sym, ap, ◌∙◌, arith}
use Rattle.std.specs.List.{list_any}
use Rattle.std.proofs.lemmas.List.Sums.{sum_by-cons}
use Rattle.strip_model.specs.Pay.{from_first, to_last}
use Rattle.strip_model.proofs.Spans.{to_last-cons, to_last-none}

-- a scene is paid where he works in it, or was called before and works later
abbrev pub is_paid : Bool → (ℕ → Bool) → ℕ → List ℕ → Bool
is_paid called p scene later = p scene || (called && list_any p later)

-- the sum of the values of the scenes that are paid
abbrev pub paid_after : Bool → (ℕ → Bool) → (ℕ → ℕ) → List ℕ → ℕ
paid_after called p value [] = 0
paid_after called p value (scene ∷ later) = cond (is_paid called p scene later) (value scene) 0 + paid_after (called || p scene) p value later

sum_by_tests : (value : ℕ → ℕ) (x : ℕ) (last : List ℕ) (b : Bool) → (b ≡ false → last ≡ [])
    → cond b (value x) 0 + sum_by value last ≡ sum_by value (cond b (x ∷ last) [])
sum_by_tests value x last true none = sym (sum_by-cons value x last)
sum_by_tests value x last false none = rw (none refl) refl

second_of : (a b : Bool) → (a || b) ≡ false → b ≡ false
second_of true b none = absurd (cc)
second_of false b none = none

pub paid_after-called : (p : ℕ → Bool) (value : ℕ → ℕ) (xs : List ℕ) → paid_after true p value xs ≡ sum_by value (to_last p xs)
paid_after-called p value [] = refl
paid_after-called p value (x ∷ xs) =
    ap (λ (n : ℕ). cond (p x || list_any p xs) (value x) 0 + n) (paid_after-called p value xs)
    ∙ sum_by_tests value x (to_last p xs) (p x || list_any p xs) (λ none. to_last-none p xs (second_of (p x) (list_any p xs) none))
    ∙ sym (ap (sum_by value) (to_last-cons p x xs))

new_by_tests : (p : ℕ → Bool) (value : ℕ → ℕ) (x : ℕ) (xs : List ℕ) (b : Bool) → p x ≡ b
    → paid_after false p value xs ≡ sum_by value (to_last p (from_first p xs))
    → cond (b || (false && list_any p xs)) (value x) 0 + paid_after (false || b) p value xs ≡ sum_by value (to_last p (cond b (x ∷ xs) (from_first p xs)))
new_by_tests p value x xs true is rest =
    let begun : to_last p (x ∷ xs) ≡ x ∷ to_last p xs
    = to_last-cons p x xs ∙ ap (λ (b : Bool). cond (b || list_any p xs) (x ∷ to_last p xs) []) is in
    ap (λ (n : ℕ). value x + n) (paid_after-called p value xs) ∙ sym (ap (sum_by value) begun ∙ sum_by-cons value x (to_last p xs))
new_by_tests p value x xs false is rest = omega (arith, rest)

pub paid_after-new : (p : ℕ → Bool) (value : ℕ → ℕ) (xs : List ℕ) → paid_after false p value xs ≡ sum_by value (to_last p (from_first p xs))
paid_after-new p value [] = refl
paid_after-new p value (x ∷ xs) = new_by_tests p value x xs (p x) refl (paid_after-new p value xs)
