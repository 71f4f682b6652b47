-- Lists of shares, and what a number of each share adds up to.
use Rattle.std.proofs.Common.{◌≡◌, ◌≢◌, ℕ, zero, suc, ◌+◌, ◌<◌, ◌≤◌, List, [], ◌∷◌, ◌++◌, set, inl, inr, refl, sym, ap, subst, arith}
use mathlib.Core.Option.{some, some-ne-none, some-injective}
use lib.ListN.{get_elem?}
use Rattle.crossbeam_deque.proofs.Lists.{at_set, at_snoc}
use Rattle.strip_steal.specs.declared.share.Share.{Share}
use Rattle.strip_steal.specs.Rule.{total, weight_of}

-- ---- one share in the place of another, and a share more

pub put_here : (shares : List Share) (id : ℕ) (share other : Share) → get_elem? shares id ≡ some share → get_elem? (set shares id other) id ≡ some other
put_here [] id share other at = absurd (some-ne-none share (sym at))
put_here (x ∷ xs) zero share other at = refl
put_here (x ∷ xs) (suc id) share other at = put_here xs id share other at

-- what holds of each share but one, and of the one that is put there, holds of each
pub each_put : (P : Share → Type 0) (shares : List Share) (id : ℕ) (other : Share) → ((j : ℕ) (u : Share) → j ≢ id → get_elem? shares j ≡ some u → P u) → P other
    → (j : ℕ) (u : Share) → get_elem? (set shares id other) j ≡ some u → P u
each_put P shares id other each one j u at = elim (at_set shares id j other u at) [
  | inl here ↦ subst P here.1 one
  | inr there ↦ each j u there.0 there.1
]

pub each_pushed : (P : Share → Type 0) (shares : List Share) (other : Share) → ((j : ℕ) (u : Share) → get_elem? shares j ≡ some u → P u) → P other
    → (j : ℕ) (u : Share) → get_elem? (shares ++ other ∷ []) j ≡ some u → P u
each_pushed P shares other each one j u at = elim (at_snoc shares other u j at) [
  | inl before ↦ each j u before
  | inr last ↦ subst P last one
]

pub each_one : (P : Share → Type 0) (share : Share) → P share → (j : ℕ) (u : Share) → get_elem? (share ∷ []) j ≡ some u → P u
each_one P share one zero u at = subst P (some-injective share u at) one
each_one P share one (suc j) u at = absurd (some-ne-none u (sym at))

-- ---- totals

pub total-put : (f : Share → ℕ) (shares : List Share) (id : ℕ) (share other : Share) → get_elem? shares id ≡ some share
    → total f (set shares id other) + f share ≡ total f shares + f other
total-put f [] id share other at = absurd (some-ne-none share (sym at))
total-put f (x ∷ xs) zero share other at = (let same : f x ≡ f share = ap f (some-injective x share at) in omega (arith, same))
total-put f (x ∷ xs) (suc id) share other at = (let rest = total-put f xs id share other at in omega (arith, rest))

pub total-push : (f : Share → ℕ) (shares : List Share) (share : Share) → total f (shares ++ share ∷ []) ≡ total f shares + f share
total-push f [] share = omega arith
total-push f (x ∷ xs) share = (let rest = total-push f xs share in omega (arith, rest))

pub total-one : (f : Share → ℕ) (shares : List Share) (id : ℕ) (share : Share) → get_elem? shares id ≡ some share → f share ≤ total f shares
total-one f [] id share at = absurd (some-ne-none share (sym at))
total-one f (x ∷ xs) zero share at = (let same : f x ≡ f share = ap f (some-injective x share at) in omega (arith, same))
total-one f (x ∷ xs) (suc id) share at = (let rest = total-one f xs id share at in omega (arith, rest))

total-two : (f : Share → ℕ) (shares : List Share) (i j : ℕ) (v w : Share) → i ≢ j → get_elem? shares i ≡ some v → get_elem? shares j ≡ some w → f v + f w ≤ total f shares
total-two f [] i j v w apart at there = absurd (some-ne-none v (sym at))
total-two f (x ∷ xs) zero zero v w apart at there = absurd (apart refl)
total-two f (x ∷ xs) zero (suc j) v w apart at there = (let same : f x ≡ f v = ap f (some-injective x v at) in let rest = total-one f xs j w there in omega (arith, same, rest))
total-two f (x ∷ xs) (suc i) zero v w apart at there = (let same : f x ≡ f w = ap f (some-injective x w there) in let rest = total-one f xs i v at in omega (arith, same, rest))
total-two f (x ∷ xs) (suc i) (suc j) v w apart at there = (let rest = total-two f xs i j v w (λ same. apart (ap suc same)) at there in omega (arith, rest))

-- ---- a share with all the weight

total-none : (f : Share → ℕ) (shares : List Share) → total weight_of shares ≡ 0 → ((j : ℕ) (u : Share) → get_elem? shares j ≡ some u → u.weight ≡ 0 → f u ≡ 0)
    → total f shares ≡ 0
total-none f [] whole none = refl
total-none f (x ∷ xs) whole none =
    omega (arith, none 0 x refl (omega (arith, whole)), total-none f xs (omega (arith, whole)) (λ j u at. none (suc j) u at))

-- the others have nothing where a share without weight has nothing
pub total-alone : (f : Share → ℕ) (shares : List Share) (id : ℕ) (share : Share) → get_elem? shares id ≡ some share → total weight_of shares ≡ share.weight
    → ((j : ℕ) (u : Share) → get_elem? shares j ≡ some u → u.weight ≡ 0 → f u ≡ 0) → total f shares ≡ f share
total-alone f [] id share at whole none = absurd (some-ne-none share (sym at))
total-alone f (x ∷ xs) zero share at whole none =
    let same : x ≡ share = some-injective x share at in
    omega (arith, ap f same, total-none f xs (omega (arith, whole, ap weight_of same)) (λ j u there. none (suc j) u there))
total-alone f (x ∷ xs) (suc id) share at whole none =
    let one = total-one weight_of xs id share at in
    let first : f x ≡ 0 = none 0 x refl (omega (arith, whole, one)) in
    omega (arith, first, total-alone f xs id share at (omega (arith, whole, one)) (λ j u there. none (suc j) u there))

-- no other share has weight
pub no_other : (shares : List Share) (id other : ℕ) (share u : Share) → get_elem? shares id ≡ some share → total weight_of shares ≡ share.weight
    → other ≢ id → get_elem? shares other ≡ some u → 0 < u.weight → ⊥
no_other shares id other share u at whole apart there heavy =
    let both = total-two weight_of shares id other share u (λ same. apart (sym same)) at there in omega (arith, both, whole, heavy)
