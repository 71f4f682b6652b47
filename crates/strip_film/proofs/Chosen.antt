-- A set that is made from a list, number by number, of those that another set has.
use Rattle.std.proofs.Common.{◌≡◌, ◌↔◌, ℕ, true, false, List, [], ◌∷◌, ◌++◌, Contains, inl, inr, ◌∙◌, subst, arith}
use Rattle.std.proofs.lemmas.List.Elements.{Contains-append_left, Contains-push, Contains-push_cases}
use Rattle.strip_mask.specs.Set.{has, with}
use Rattle.strip_mask.proofs.ByMembers.{has-empty, has-with, has-with_same, has_from_with, same_has}
use Rattle.strip_mask.proofs.Agree.{same_test}
use Rattle.std.proofs.Math.Bool.{or-true}

-- the set has the numbers of the list that are chosen, and no other
pub record IsChosen (chosen : ℕ) (done : List ℕ) (set : ℕ) : Type 0 where
  pub each : (x : ℕ) → (has set x ≡ true) ↔ (Contains done x × (has chosen x ≡ true))

pub IsChosen-none : (chosen : ℕ) → IsChosen chosen [] 0
IsChosen-none chosen = record {
  each = λ x. (
    λ member. absurd (let e : has 0 x ≡ false = has-empty x in cc),
    λ both. absurd (omega (arith, both.0.1)),
  );
}

-- a number that is chosen comes in
pub IsChosen-with : (chosen : ℕ) (done : List ℕ) (set i : ℕ) → IsChosen chosen done set → has chosen i ≡ true → IsChosen chosen (done ++ i ∷ []) (with set i)
IsChosen-with chosen done set i so_far here = record {
  each = λ x. (
    λ member. elim (has_from_with set i x member) [
      | inl same ↦ (subst (λ (j : ℕ). Contains (done ++ i ∷ []) j) same (Contains-push done i), subst (λ (j : ℕ). has chosen j ≡ true) same here)
      | inr before ↦ (let both = (so_far.each x).0 before in (Contains-append_left done (i ∷ []) x both.0, both.1))
    ],
    λ both. elim (Contains-push_cases done i x both.0) [
      | inl before ↦ has-with set i x ∙ rw ((so_far.each x).1 (before, both.1)) (or-true _)
      | inr same ↦ subst (λ (j : ℕ). has (with set i) j ≡ true) same (has-with_same set i)
    ],
  );
}

-- and one that isn't stays out
pub IsChosen-past : (chosen : ℕ) (done : List ℕ) (set i : ℕ) → IsChosen chosen done set → has chosen i ≡ false → IsChosen chosen (done ++ i ∷ []) set
IsChosen-past chosen done set i so_far out = record {
  each = λ x. (
    λ member. (let both = (so_far.each x).0 member in (Contains-append_left done (i ∷ []) x both.0, both.1)),
    λ both. elim (Contains-push_cases done i x both.0) [
      | inl before ↦ (so_far.each x).1 (before, both.1)
      | inr same ↦ absurd (let e : has chosen x ≡ false = subst (λ (j : ℕ). has chosen j ≡ false) same out in cc)
    ],
  );
}

-- where the list has all that is chosen, the set is what is chosen
pub IsChosen-all : (chosen : ℕ) (done : List ℕ) (set : ℕ) → IsChosen chosen done set → ((x : ℕ) → has chosen x ≡ true → Contains done x) → set ≡ chosen
IsChosen-all chosen done set all there =
    same_has set chosen (λ x. same_test (has set x) (has chosen x) (λ member. ((all.each x).0 member).1) (λ here. (all.each x).1 (there x here, here)))
