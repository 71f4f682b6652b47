-- Some member that two sets share.
use Rattle.std.proofs.Common.{◌≡◌, ℕ, ◌⊎◌, true, false, not, eqb, inl, inr, sym, ap, ◌∙◌}
use Rattle.std.proofs.lemmas.Bool.{cases_eq, and_from}
use Rattle.std.proofs.lemmas.Bool.Decides.{eqb_tells}
use Rattle.strip_mask.specs.Set.{IsSet, has, meet}
use Rattle.strip_mask.proofs.ByMembers.{has_from_meet, has-meet, has-empty, IsSet-meet, IsSet-meet_right, some_member}

-- two sets share a member or share none
pub shared_or_none : (a b : ℕ) → IsSet a
    → ((i : ℕ) × (has a i ≡ true) × (has b i ≡ true)) ⊎ ((i : ℕ) → has a i ≡ true → has b i ≡ true → ⊥)
shared_or_none a b is = elim (cases_eq (meet a b) 0) [
  | inl none ↦ inr (λ i in_a in_b.
      let e : has 0 i ≡ true = ap (λ (q : ℕ). has q i) (sym none) ∙ has-meet a b i ∙ and_from (has a i) (has b i) in_a in_b in
      let f : has 0 i ≡ false = has-empty i in cc)
  | inr some ↦ inl (let found = some_member (meet a b) (IsSet-meet a b is) some in
      let both = has_from_meet a b found.0 found.2 in (found.0, both.0, both.1))
]

-- a test that two sets meet, and a member that they share
pub shared_from_test : (a b : ℕ) → IsSet b → not (eqb (meet a b) 0) ≡ true → (i : ℕ) × (has a i ≡ true) × (has b i ≡ true)
shared_from_test a b is meets = elim (eqb_tells (meet a b) 0) [
  | inl none ↦ absurd (let e : not (eqb (meet a b) 0) ≡ false = ap not none.0 in cc)
  | inr some ↦ (let found = some_member (meet a b) (IsSet-meet_right a b is) some.1 in
      let both = has_from_meet a b found.0 found.2 in (found.0, both.0, both.1))
]

pub test_from_shared : (a b i : ℕ) → has a i ≡ true → has b i ≡ true → not (eqb (meet a b) 0) ≡ true
test_from_shared a b i in_a in_b = elim (eqb_tells (meet a b) 0) [
  | inl none ↦ absurd (
      let e : has 0 i ≡ true = ap (λ (q : ℕ). has q i) (sym none.1) ∙ has-meet a b i ∙ and_from (has a i) (has b i) in_a in_b in
      let f : has 0 i ≡ false = has-empty i in cc)
  | inr some ↦ ap not some.0
]
