-- Pieces of a list in which no number stands twice share no number.
use Rattle.std.proofs.Common.{◌≡◌, ◌≢◌, ℕ, zero, suc, ◌+◌, ◌<◌, ◌≤◌, List, [], ◌∷◌, Contains, length, take, drop, fold, slice_index, inl, inr, refl, sym, ◌∙◌, arith}
use Rattle.strip_mask.specs.Set.{size, with}
use Rattle.strip_mask.proofs.Sizes.{size-empty}
use Rattle.strip_mask.proofs.Lists.{contains_later, contains_cases, contains_none}
use Rattle.strip_bound.specs.Bounds.{set_of}
use Rattle.strip_bound.proofs.Fall.{Chain}
use Rattle.strip_bound.proofs.Pieces.{contains_take, contains_drop}
use Rattle.strip_bound.proofs.Turns.{size_with_most}

-- where a number of a piece stands in the list
pub record IsAt (xs : List ℕ) (low high number place : ℕ) : Type 0 where
  pub from : low ≤ place
  pub below : place < high
  pub within : place < length xs
  pub there : slice_index xs place ≡ number

taken_at : (n : ℕ) (xs : List ℕ) (i : ℕ) → Contains (take n xs) i → (k : ℕ) × IsAt xs 0 n i k
taken_at zero xs i there = absurd (contains_none i there)
taken_at (suc n) [] i there = absurd (contains_none i there)
taken_at (suc n) (x ∷ xs) i there = elim (contains_cases x (take n xs) i there) [
  | inl same ↦ (0, record { from = omega arith; below = omega arith; within = omega arith; there = same })
  | inr later ↦ (let found = taken_at n xs i later in
      (suc found.0, record { from = omega arith; below = omega (arith, found.1.below); within = omega (arith, found.1.within); there = found.1.there }))
]

pub piece_at : (from n : ℕ) (xs : List ℕ) (i : ℕ) → Contains (take n (drop from xs)) i → (k : ℕ) × IsAt xs from (from + n) i k
piece_at zero n xs i there = let found = taken_at n xs i there in
    (found.0, record { from = omega arith; below = omega (arith, found.1.below); within = found.1.within; there = found.1.there })
piece_at (suc from) n [] i there = absurd (contains_none i (contains_take n [] i there))
piece_at (suc from) n (x ∷ xs) i there = let found = piece_at from n xs i there in
    (suc found.0, record { from = omega (arith, found.1.from); below = omega (arith, found.1.below); within = omega (arith, found.1.within); there = found.1.there })

contains_at : (xs : List ℕ) (k : ℕ) → k < length xs → Contains xs (slice_index xs k)
contains_at [] k within = absurd (omega (arith, within))
contains_at (x ∷ xs) zero within = (0, omega arith, refl)
contains_at (x ∷ xs) (suc k) within = contains_later x xs (slice_index xs k) (contains_at xs k (omega (arith, within)))

-- two places have two numbers
two_places : (xs : List ℕ) (j k : ℕ) → Chain (λ a b. a ≢ b) xs → j < k → k < length xs → slice_index xs j ≢ slice_index xs k
two_places [] j k once less within = absurd (omega (arith, within))
two_places (x ∷ xs) zero zero once less within = absurd (omega (arith, less))
two_places (x ∷ xs) zero (suc k) once less within = once.0 (slice_index xs k) (contains_at xs k (omega (arith, within)))
two_places (x ∷ xs) (suc j) zero once less within = absurd (omega (arith, less))
two_places (x ∷ xs) (suc j) (suc k) once less within = two_places xs j k once.1 (omega (arith, less)) (omega (arith, within))

pub pieces_differ : (xs : List ℕ) (from n later m i : ℕ) → Chain (λ a b. a ≢ b) xs → from + n ≤ later
    → Contains (take n (drop from xs)) i → Contains (take m (drop later xs)) i → ⊥
pieces_differ xs from n later m i once apart first second =
    let a = piece_at from n xs i first in
    let b = piece_at later m xs i second in
    two_places xs a.0 b.0 once (omega (arith, a.1.below, apart, b.1.from)) b.1.within (a.1.there ∙ sym b.1.there)

-- ---- the set of a piece

size_fold : (set n : ℕ) (xs : List ℕ) → ((i : ℕ) → Contains xs i → i < 64) → size (fold with set (take n xs)) ≤ size set + n
size_fold set zero xs small = omega arith
size_fold set (suc n) [] small = omega arith
size_fold set (suc n) (x ∷ xs) small =
    omega (arith, size_fold (with set x) n xs (λ i there. small i (contains_later x xs i there)), size_with_most set x (small x (0, omega arith, refl)))

pub size_piece : (from n : ℕ) (xs : List ℕ) → ((i : ℕ) → Contains xs i → i < 64) → size (set_of (take n (drop from xs))) ≤ n
size_piece from n xs small = omega (arith, size_fold 0 n (drop from xs) (λ i there. small i (contains_drop from xs i there)), size-empty)
