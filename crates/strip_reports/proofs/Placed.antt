-- The first and the last place of a list at which a test passes.
use Rattle.std.proofs.Common.{◌≡◌, ℕ, ◌+◌, ◌-◌, Bool, true, false, cond, not, ◌||◌, ltb, if◌then◌else◌, Option, None, Some, List, [], ◌∷◌, length, reverse, position, refl, sym, ap, ◌∙◌, arith}
use Rattle.std.specs.List.{list_any, position_or_len}
use Rattle.std.proofs.lemmas.Bool.Decides.{nat_tests}
use Rattle.std.proofs.lemmas.List.{length-reverse}
use Rattle.std.proofs.lemmas.Bool.{ltb-false}

-- the number of the day at a place, counted from 1, and at a place from the end of n days; 0 if there is none
abbrev pub from_front : Option ℕ → ℕ
from_front None = 0
from_front (Some place) = place + 1

abbrev pub from_end : ℕ → Option ℕ → ℕ
from_end n None = 0
from_end n (Some place) = n - place

module _ (p : ℕ → Bool) where
  any_is : (xs : List ℕ) → list_any p xs ≡ ltb (position_or_len p xs) (length xs)
  any_is [] = refl
  any_is (x ∷ xs) = by_test (p x) (any_is xs)
    where
      by_test : (b : Bool) → list_any p xs ≡ ltb (position_or_len p xs) (length xs)
          → (b || list_any p xs) ≡ ltb (cond (not b) (1 + position_or_len p xs) 0) (length (x ∷ xs))
      by_test true rest = grind (arith, nat_tests)
      by_test false rest = rest ∙ grind (arith, nat_tests)

  pub first_is : (xs : List ℕ) → from_front (position p xs) ≡ (if list_any p xs then position_or_len p xs + 1 else 0)
  first_is xs = by_test (ltb (position_or_len p xs) (length xs)) (any_is xs)
    where
      by_test : (b : Bool) → list_any p xs ≡ b
          → from_front (cond b (Some (position_or_len p xs)) None) ≡ (if list_any p xs then position_or_len p xs + 1 else 0)
      by_test true some = ap (λ (b : Bool). if b then position_or_len p xs + 1 else 0) (sym some)
      by_test false none = ap (λ (b : Bool). if b then position_or_len p xs + 1 else 0) (sym none)

  pub last_is : (xs : List ℕ) → from_end (length xs) (position p (reverse xs)) ≡ length xs - position_or_len p (reverse xs)
  last_is xs = by_test (ltb (position_or_len p (reverse xs)) (length (reverse xs))) refl
    where
      by_test : (b : Bool) → ltb (position_or_len p (reverse xs)) (length (reverse xs)) ≡ b
          → from_end (length xs) (cond b (Some (position_or_len p (reverse xs))) None) ≡ length xs - position_or_len p (reverse xs)
      by_test true some = refl
      by_test false none = omega (arith, ltb-false (position_or_len p (reverse xs)) (length (reverse xs)) none, length-reverse xs)
