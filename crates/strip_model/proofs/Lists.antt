-- Tests of some element of a list, and what strip_mask says of lists.
use Rattle.std.proofs.Common.{◌≡◌, Bool, true, List, [], ◌∷◌, Contains, inl, inr, refl, ap, ◌∙◌}
use Rattle.std.specs.List.{list_any}
pub use Rattle.std.proofs.Math.Bool.{or-true as or_true}
use Rattle.std.proofs.lemmas.Bool.{or_cases}
pub use Rattle.strip_mask.proofs.Lists.{contains_cases, contains_here, contains_later, contains_none}
pub use Rattle.strip_mask.proofs.Agree.{same_test}

-- some element passes
pub any_from : {X : Type 0} (p : X → Bool) (xs : List X) (x : X) → Contains xs x → p x ≡ true → list_any p xs ≡ true
any_from p [] x there passes = absurd (contains_none x there)
any_from p (y ∷ ys) x there passes = elim (contains_cases y ys x there) [
  | inl same ↦ rw (ap p same ∙ passes) refl
  | inr later ↦ rw (any_from p ys x later passes) (or_true (p y))
]

pub any_is : {X : Type 0} (p : X → Bool) (xs : List X) → list_any p xs ≡ true → (x : X) × Contains xs x × (p x ≡ true)
any_is p [] some = absurd (cc)
any_is p (y ∷ ys) some = elim (or_cases (p y) (list_any p ys) some) [
  | inl here ↦ (y, contains_here y ys, here)
  | inr later ↦ (let found = any_is p ys later in (found.0, contains_later y ys found.0 found.1, found.2))
]
