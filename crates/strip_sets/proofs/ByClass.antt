-- A number for each class, by the two.
use Rattle.std.proofs.Common.{◌≡◌, ℕ, suc, zero, refl, [], ◌∷◌, slice_index}

-- numbers that agree
pub same_two : {a b p q : ℕ} → a ≡ p → b ≡ q → (class : ℕ) → slice_index (a ∷ b ∷ []) class ≡ slice_index (p ∷ q ∷ []) class
same_two first second zero = first
same_two first second (suc zero) = second
same_two first second (suc (suc n)) = refl
