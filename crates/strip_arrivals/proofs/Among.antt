-- Sets of those who are here, where one or two are.
use Rattle.std.proofs.Common.{◌≡◌, ◌≢◌, ℕ, zero, suc, ◌+◌, ◌<◌, ◌⊎◌, Bool, true, false, not, ◌&&◌, cond, eqb, List, [], ◌∷◌, refl, sym, ap, ◌∙◌, subst, inl, inr, arith}
use Rattle.std.specs.List.{list_all}
use Rattle.std.proofs.lemmas.Bool.{eq-eqb, eqb-true, false≢true, cases_Bool}
use Rattle.strip_mask.specs.Set.{has, with}
use Rattle.strip_mask.proofs.ByMembers.{has-empty, has-with_other, has-with_same, has_from_with, same_has, empty_has}
use Rattle.strip_arrivals.specs.Arrivals.{actors_of}
use Rattle.strip_mask.proofs.Lists.{contains_here, contains_later}
use Rattle.strip_mask.proofs.Agree.{same_test}
use Rattle.strip_arrivals.proofs.Casts.{has_listed, listed_has}
use Rattle.strip_arrivals.proofs.Chosen.{passes_all, all_passes}

-- a set of these
abbrev pub IsAmong : List ℕ → ℕ → Type 0
IsAmong here these = (actor : ℕ) → has these actor ≡ true → has (actors_of here) actor ≡ true

-- two tests say the same
abbrev pub agrees : Bool → Bool → Bool
agrees true b = b
agrees false b = not b

-- two sets of these are the same where they agree on each
pub alike_in : (here : List ℕ) (first second : ℕ) → IsAmong here first → IsAmong here second
    → eqb first second ≡ list_all (λ actor. agrees (has first actor) (has second actor)) here
alike_in here first second among also = same_test (eqb first second) (list_all (λ actor. agrees (has first actor) (has second actor)) here)
    (λ same. passes_all (λ actor. agrees (has first actor) (has second actor)) here (λ actor _.
    ap (λ (s : ℕ). agrees (has first actor) (has s actor)) (sym (eqb-true first second same)) ∙ itself (has first actor)))
    (λ all. eq-eqb first second (same_has first second (λ actor. elim (cases_Bool (has (actors_of here) actor)) [
      | inl there ↦ told (has first actor) (has second actor)
          (all_passes (λ other. agrees (has first other) (has second other)) here actor all (listed_has here actor there))
      | inr missing ↦ same_test (has first actor) (has second actor) (λ there. absurd (false≢true (sym missing ∙ among actor there)))
          (λ there. absurd (false≢true (sym missing ∙ also actor there)))
    ])))
  where
    itself : (b : Bool) → agrees b b ≡ true
    itself true = refl
    itself false = refl

    told : (a b : Bool) → agrees a b ≡ true → a ≡ b
    told true b is = sym is
    told false true is = absurd (false≢true is)
    told false false is = refl

-- the empty set is one of them
pub among_none : (here : List ℕ) → IsAmong here 0
among_none here actor there = absurd (empty_has actor there)

-- a set with one more of them
pub among_with : (here : List ℕ) (these one : ℕ) → IsAmong here these → has (actors_of here) one ≡ true → IsAmong here (with these one)
among_with here these one among there actor inside = elim (has_from_with these one actor inside) [
  | inl is ↦ ap (has (actors_of here)) (sym is) ∙ there
  | inr before ↦ among actor before
]

-- of two, the first is there
pub first_listed : (one other : ℕ) → has (actors_of (one ∷ other ∷ [])) one ≡ true
first_listed one other = has-with_same (with 0 other) one

-- and the second
pub second_listed : (one other : ℕ) → has (actors_of (one ∷ other ∷ [])) other ≡ true
second_listed one other = has_listed (one ∷ other ∷ []) other (contains_later one (other ∷ []) other (contains_here other []))

-- both together are some of them
pub among_both : (one other : ℕ) → IsAmong (one ∷ other ∷ []) (with (with 0 one) other)
among_both one other = among_with (one ∷ other ∷ []) (with 0 one) other
    (among_with (one ∷ other ∷ []) 0 one (among_none (one ∷ other ∷ [])) (first_listed one other)) (second_listed one other)

-- the set of one lacks another one
pub lacks : (one other : ℕ) → one ≢ other → has (with 0 one) other ≡ false
lacks one other apart = has-with_other 0 one other apart ∙ has-empty other

-- that of both has the first
pub first_of_two : (one other : ℕ) → one ≢ other → has (with (with 0 one) other) one ≡ true
first_of_two one other apart = has-with_other (with 0 one) other one (λ same. apart (sym same)) ∙ has-with_same 0 one

-- sets of two are the same where they agree on both
pub alike_two : (one other these those : ℕ) → IsAmong (one ∷ other ∷ []) these → IsAmong (one ∷ other ∷ []) those → (a b : Bool) → has these one ≡ a → has these other ≡ b
    → eqb these those ≡ (agrees a (has those one) && (agrees b (has those other) && true))
alike_two one other these those among also a b is is_too =
    alike_in (one ∷ other ∷ []) these those among also ∙ (λ i. agrees (is i) (has those one) && (agrees (is_too i) (has those other) && true))

-- one of two things
abbrev pub either_one : {X : Type 0} → X → X → ℕ → X
either_one first second zero = first
either_one first second (suc n) = second

-- what holds of two holds of each
pub for_two : (P : ℕ → Type 0) → P 0 → P 1 → (kind : ℕ) → kind < 2 → P kind
for_two P first second zero below = first
for_two P first second (suc zero) below = second
for_two P first second (suc (suc kind)) below = absurd (omega (arith, below))

-- who is one of two
pub one_of_two : (one other actor : ℕ) → has (with (with 0 one) other) actor ≡ true → (one ≡ actor) ⊎ (other ≡ actor)
one_of_two one other actor there = elim (has_from_with (with 0 one) other actor there) [
  | inl second ↦ inr second
  | inr before ↦ elim (has_from_with 0 one actor before) [ inl first ↦ inl first | inr none ↦ absurd (empty_has actor none) ]
]

-- the newcomers of a scene of one of two are he alone or both
pub either_once : (one other actor these : ℕ) → one ≢ other → (one ≡ actor) ⊎ (other ≡ actor) → IsAmong (one ∷ other ∷ []) these → has these actor ≡ true
    → cond {A = ℕ} (eqb (with 0 actor) these) 1 0 + cond {A = ℕ} (eqb (with (with 0 one) other) these) 1 0 ≡ 1
either_once one other actor these apart which among = elim which [
  | inl is ↦ subst (λ (who : ℕ). has these who ≡ true → cond {A = ℕ} (eqb (with 0 who) these) 1 0 + cond {A = ℕ} (eqb (with (with 0 one) other) these) 1 0 ≡ 1) is (λ works.
      (λ i. cond {A = ℕ} (alike_two one other (with 0 one) these (among_with here 0 one (among_none here) (first_listed one other)) among true false (has-with_same 0 one) (lacks one other apart) i) 1 0
      + cond {A = ℕ} (as_both i) 1 0) ∙ first (has these one) (has these other) works)
  | inr is ↦ subst (λ (who : ℕ). has these who ≡ true → cond {A = ℕ} (eqb (with 0 who) these) 1 0 + cond {A = ℕ} (eqb (with (with 0 one) other) these) 1 0 ≡ 1) is (λ works.
      (λ i. cond {A = ℕ} (alike_two one other (with 0 other) these (among_with here 0 other (among_none here) (second_listed one other)) among false true
      (lacks other one (λ same. apart (sym same))) (has-with_same 0 other) i) 1 0
      + cond {A = ℕ} (as_both i) 1 0) ∙ second (has these one) (has these other) works)
]
  where
    here : List ℕ
    here = one ∷ other ∷ []

    as_both : eqb (with (with 0 one) other) these ≡ (has these one && (has these other && true))
    as_both = alike_two one other (with (with 0 one) other) these (among_both one other) among true true (first_of_two one other apart) (has-with_same (with 0 one) other)

    first : (a b : Bool) → a ≡ true → cond {A = ℕ} (a && (not b && true)) 1 0 + cond {A = ℕ} (a && (b && true)) 1 0 ≡ 1
    first true true is = refl
    first true false is = refl
    first false b is = absurd (false≢true is)

    second : (a b : Bool) → b ≡ true → cond {A = ℕ} (not a && (b && true)) 1 0 + cond {A = ℕ} (a && (b && true)) 1 0 ≡ 1
    second true true is = refl
    second false true is = refl
    second a false is = absurd (false≢true is)
