-- What an actor is paid, place by place, for any value of his scenes.
use Rattle.std.proofs.Common.{◌≡◌, ℕ, zero, suc, ◌+◌, Bool, cond, ◌||◌, List, [], ◌∷◌, length, take, drop, get_or, sym, ap, ◌∙◌, arith}
use Rattle.std.specs.List.{list_any}
use Rattle.std.proofs.Math.Bool.{or_assoc, or-false}
use Rattle.strip_mask.specs.Sums.{sum_below}
use Rattle.strip_mask.proofs.Sums.{sum_below-zero, sum_below-suc, sum_below-ext}
use Rattle.strip_model.proofs.Walk.{is_paid, paid_after}

-- a sum with its first term apart
pub sum_below-first : (n : ℕ) (f : ℕ → ℕ) → sum_below (suc n) f ≡ f 0 + sum_below n (λ i. f (suc i))
sum_below-first zero f = rw (sum_below-suc 0 f, sum_below-zero f, sum_below-zero (λ i. f (suc i))) (omega arith)
sum_below-first (suc n) f =
    let before : sum_below (suc n) f ≡ f 0 + sum_below n (λ i. f (suc i)) = sum_below-first n f in
    rw (sum_below-suc (suc n) f, sum_below-suc n (λ i. f (suc i))) (omega (arith, before))

-- the same at a place of a list, where he may have been called before the list
abbrev pub paid_at : Bool → (ℕ → Bool) → (ℕ → ℕ) → List ℕ → ℕ → ℕ
paid_at called p value xs place = cond (is_paid (called || list_any p (take place xs)) p (get_or xs place 0) (drop (suc place) xs)) (value (get_or xs place 0)) 0

-- place by place or scene by scene
pub by_places : (called : Bool) (p : ℕ → Bool) (value : ℕ → ℕ) (xs : List ℕ) → sum_below (length xs) (paid_at called p value xs) ≡ paid_after called p value xs
by_places called p value [] = sum_below-zero (paid_at called p value [])
by_places called p value (x ∷ xs) =
    sum_below-first (length xs) (paid_at called p value (x ∷ xs))
    ∙ ap (λ (b : Bool). cond (is_paid b p x xs) (value x) 0 + sum_below (length xs) (λ i. paid_at called p value (x ∷ xs) (suc i))) (or-false called)
    ∙ ap (λ (n : ℕ). cond (is_paid called p x xs) (value x) 0 + n)
    (sum_below-ext (length xs) (λ i. paid_at called p value (x ∷ xs) (suc i)) (paid_at (called || p x) p value xs)
    (λ i _. ap (λ (b : Bool). cond (is_paid b p (get_or xs i 0) (drop (suc i) xs)) (value (get_or xs i 0)) 0) (sym (or_assoc called (p x) (list_any p (take i xs)))))
    ∙ by_places (called || p x) p value xs)
