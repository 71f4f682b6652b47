-- A fact of each element or of each two elements of a list, through a map and as the list grows.
use Rattle.std.proofs.Common.{◌≡◌, ◌≢◌, ℕ, ◌+◌, ◌<◌, List, [], ◌∷◌, All, length, get_or, take, map, sym, ap, ◌∙◌, arith, inl, inr}
use Rattle.std.specs.List.{AllPairs, Any}
use Rattle.std.proofs.lemmas.List.{get_or-map, length-map, get_or-take, length-take-le, get_or_read, get_or_default}
use Rattle.std.proofs.lemmas.Bool.{cases_lt}

pub All-from_map : {X Y : Type 0} (P : Y → Type 0) (f : X → Y) (xs : List X) → All P (map f xs) → All (λ x. P (f x)) xs
All-from_map P f xs all i d within =
    let long : i < length (map f xs) = omega (arith, length-map xs f) in
    let known : P (get_or (map f xs) i (f d)) = all i (f d) long in
    rw (get_or-map f xs i d (f d) within) at known

pub AllPairs-from_map : {X Y : Type 0} (f : X → Y) (R : Y → Y → Type 0) (xs : List X) → AllPairs R (map f xs) → AllPairs (λ a b. R (f a) (f b)) xs
AllPairs-from_map f R xs apart i j d before within =
    let second : get_or (map f xs) j (f d) ≡ f (get_or xs j d) = get_or-map f xs j d (f d) within in
    let short : i < length xs = omega arith in
    let first : get_or (map f xs) i (f d) ≡ f (get_or xs i d) = get_or-map f xs i d (f d) short in
    let long : j < length (map f xs) = omega (arith, length-map xs f) in
    let known : R (get_or (map f xs) i (f d)) (get_or (map f xs) j (f d)) = apart i j (f d) before long in
    rw second at (rw first at known)

pairs_through : {X Y : Type 0} (f : X → Y) (R : Y → Y → Type 0) (xs : List X) (x : X) → AllPairs (λ a b. R (f a) (f b)) xs
    → (i j : ℕ) (d : Y) → i < j → j < length (map f xs) → R (get_or (map f xs) i d) (get_or (map f xs) j d)
pairs_through f R xs x apart i j d before within =
    let long : j < length xs = omega (arith, length-map xs f) in
    let short : i < length xs = omega arith in
    let second : get_or (map f xs) j d ≡ f (get_or xs j x) = get_or-map f xs j x d long in
    let first : get_or (map f xs) i d ≡ f (get_or xs i x) = get_or-map f xs i x d short in
    rw (first, second) (apart i j x before long)

pub AllPairs-map : {X Y : Type 0} (f : X → Y) (R : Y → Y → Type 0) (xs : List X) → AllPairs (λ a b. R (f a) (f b)) xs → AllPairs R (map f xs)
AllPairs-map f R [] apart = λ i j d before within. absurd (omega (arith, within))
AllPairs-map f R (x ∷ xs) apart = pairs_through f R (x ∷ xs) x apart

-- one more element that has the fact with each earlier one
pub AllPairs-more : {X : Type 0} (R : X → X → Type 0) (xs : List X) (n : ℕ) → n < length xs → AllPairs R (take n xs)
    → ((i : ℕ) (d : X) → i < n → R (get_or xs i d) (get_or xs n d)) → AllPairs R (take (n + 1) xs)
AllPairs-more R xs n lt apart last i j d before within =
    let size : length (take (n + 1) xs) ≡ n + 1 = length-take-le (n + 1) xs (omega arith) in
    let j_below : j < n + 1 = omega arith in
    let i_below : i < n + 1 = omega arith in
    rw (get_or-take (n + 1) xs i d i_below, get_or-take (n + 1) xs j d j_below) (elim (cases_lt j n) [
      | inl earlier ↦ old earlier
      | inr here ↦ (let same : j ≡ n = omega arith in rw same (last i d (omega arith)))
    ])
  where
    old : j < n → R (get_or xs i d) (get_or xs j d)
    old earlier =
        let size : length (take n xs) ≡ n = length-take-le n xs (omega arith) in
        let known : R (get_or (take n xs) i d) (get_or (take n xs) j d) = apart i j d before (omega arith) in
        (let i_old : i < n = omega arith in rw (get_or-take n xs i d i_old) at (rw (get_or-take n xs j d earlier) at known))

-- of a list whose elements have each their own name, an element has the name of no earlier one, and the other way round
module _ {X : Type 0} (name : X → List ℕ) (xs : List X) (n : ℕ) (item : X) (wanted : List ℕ)
    (within : n < length xs) (is : item ≡ get_or xs n item) (called : wanted ≡ name item) where
  pub not_taken : AllPairs (λ a b. name a ≢ name b) xs → Any (λ x. name x ≡ wanted) (take n xs) → ⊥
  not_taken apart (k, x, before, here, same) =
      let size : length (take n xs) ≡ n = length-take-le n xs (omega arith) in
      let k_below : k < n = omega arith in
      let first : get_or xs k x ≡ x = sym (get_or-take n xs k x k_below) ∙ here in
      let last : item ≡ get_or xs n x = get_or_read xs n item within is x in
      apart k n x k_below within (ap name first ∙ same ∙ called ∙ ap name last)

  pub own_from_free : (Any (λ x. name x ≡ wanted) (take n xs) → ⊥) → (i : ℕ) (d : X) → i < n → name (get_or xs i d) ≢ name (get_or xs n d)
  own_from_free free i d before same =
      let size : length (take n xs) ≡ n = length-take-le n xs (omega arith) in
      let last : item ≡ get_or xs n d = get_or_read xs n item within is d in
      let at_place : get_or (take n xs) i d ≡ get_or xs i d = get_or-take n xs i d before in
      let short : i < length (take n xs) = omega arith in
      let itself : get_or (take n xs) i (get_or (take n xs) i d) ≡ get_or (take n xs) i d = get_or_default (take n xs) i (get_or (take n xs) i d) d short in
      free (i, get_or (take n xs) i d, short, itself, ap name at_place ∙ same ∙ sym (ap name last) ∙ sym called)
