-- Lists by place.
use Rattle.std.proofs.Common.{◌≡◌, ℕ, zero, suc, ◌<◌, All, List, [], ◌∷◌, length, map, set, refl, sym, ap, ◌∙◌, subst, arith}
use Rattle.std.proofs.lemmas.List.Elements.{All-cons, All-head, All-nil, All-tail}
use mathlib.Core.Option.{some, some-injective, some-ne-none}
use lib.ListN.{get_elem?}

module _ {A : Type 0} where
  pub at_of_all : (P : A → Type 0) (xs : List A) → All P xs → (i : ℕ) (x : A) → get_elem? xs i ≡ some x → P x
  at_of_all P [] all i x at = absurd (some-ne-none x (sym at))
  at_of_all P (y ∷ ys) all zero x at = subst P (some-injective y x at) (All-head P y ys all)
  at_of_all P (y ∷ ys) all (suc i) x at = at_of_all P ys (All-tail P y ys all) i x at

  pub all_of_at : (P : A → Type 0) (xs : List A) → ((i : ℕ) (x : A) → get_elem? xs i ≡ some x → P x) → All P xs
  all_of_at P [] each = All-nil P
  all_of_at P (y ∷ ys) each = All-cons P y ys (each 0 y refl) (all_of_at P ys (λ i x at. each (suc i) x at))

  pub map_same : {B : Type 0} (f : A → B) (xs : List A) (i : ℕ) (v w : A) → get_elem? xs i ≡ some v → f w ≡ f v → map f (set xs i w) ≡ map f xs
  map_same f [] i v w at same = absurd (some-ne-none v (sym at))
  map_same f (x ∷ xs) zero v w at same = ap (λ y. y ∷ map f xs) (same ∙ sym (ap f (some-injective x v at)))
  map_same f (x ∷ xs) (suc i) v w at same = ap (λ l. f x ∷ l) (map_same f xs i v w at same)

  pub some_at : (xs : List A) (i : ℕ) → i < length xs → (x : A) × (get_elem? xs i ≡ some x)
  some_at [] i within = absurd (omega (arith, within))
  some_at (x ∷ xs) zero within = (x, refl)
  some_at (x ∷ xs) (suc i) within = some_at xs i (omega (arith, within))

  pub within : (xs : List A) (i : ℕ) (x : A) → get_elem? xs i ≡ some x → i < length xs
  within [] i x at = absurd (some-ne-none x (sym at))
  within (y ∷ ys) zero x at = omega arith
  within (y ∷ ys) (suc i) x at = (let rest = within ys i x at in omega (arith, rest))
