-- A taker asks one queue after the other.
use Rattle.std.proofs.Common.{◌≡◌, ◌⊎◌, ℕ, zero, suc, ◌+◌, ◌<◌, ◌≤◌, true, All, List, [], ◌∷◌, ◌&&◌, None, length, map, set, inl, inr, refl, sym, ap, ◌∙◌, subst, length-set, arith}
use Rattle.std.proofs.lemmas.Bool.{cases_eq}
use Rattle.std.proofs.lemmas.List.Elements.{All-cons, All-head, All-tail}
use mathlib.Core.Option.{some, some-injective}
use lib.ListN.{get_elem?}
use Rattle.crossbeam_deque.proofs.Lists.{at_set, set_else}
use Rattle.strip_steal.specs.declared.share.Share.{Share}
use Rattle.strip_steal.specs.Rule.{times}
use Rattle.strip_steal.specs.Steps.{IsAsked, with_taken}
use Rattle.strip_steal.specs.Taker.{AreShares, IsShare, have_ended, puts, taken_in}
use Rattle.strip_steal.proofs.Handed.{handed-same, taken-same}
use Rattle.strip_steal.proofs.Places.{within}
use Rattle.strip_steal.proofs.Shares.{put_here}

-- each share is as it was, or an end was taken with it
abbrev pub AreLater : List Share → List Share → Type 0
AreLater before after = (i : ℕ) (share : Share) → get_elem? before i ≡ some share
    → (get_elem? after i ≡ some share) ⊎ (get_elem? after i ≡ some (with_taken share None))

-- so many queues were asked, the first of them at this place, and an end of each was taken
pub record HasTurned (before : List Share) (place turn : ℕ) (after : List Share) : Type 0 where
  pub long : length after ≡ length before
  pub each : AreLater before after
  pub ended : (i : ℕ) (share : Share) → get_elem? after i ≡ some share → place ≤ i → i < place + turn → share.ended ≡ true
  pub around : (i : ℕ) (share : Share) → get_elem? after i ≡ some share → i + length before < place + turn → share.ended ≡ true

pub turned-start : (before : List Share) (place : ℕ) → place < length before → HasTurned before place 0 before
turned-start before place inside = record {
  long = refl;
  each = λ i share at. inl at;
  ended = λ i share at from below. absurd (omega (arith, from, below));
  around = λ i share at below. absurd (omega (arith, inside, below));
}

later-step : (before now : List Share) (from : ℕ) (share : Share) → AreLater before now → get_elem? now from ≡ some share
    → AreLater before (set now from (with_taken share None))
later-step before now from share each here i old at = elim (cases_eq i from) [
  | inl same ↦ (
      let place : get_elem? (set now from (with_taken share None)) i ≡ some (with_taken share None)
      = ap (get_elem? (set now from (with_taken share None))) same ∙ put_here now from share (with_taken share None) here in
      let me : get_elem? now i ≡ some share = ap (get_elem? now) same ∙ here in
      elim (each i old at) [
        | inl is ↦ inr (place ∙ ap (λ s. some (with_taken s None)) (some-injective share old (sym me ∙ is)))
        | inr is ↦ inr (place ∙ ap (λ s. some (with_taken s None)) (some-injective share (with_taken old None) (sym me ∙ is)))
      ])
  | inr apart ↦ elim (each i old at) [
    | inl is ↦ inl (set_else now from i (with_taken share None) apart ∙ is)
    | inr is ↦ inr (set_else now from i (with_taken share None) apart ∙ is)
  ]
]

pub turned-step : (before now : List Share) (place turn from : ℕ) (after : List Share) → place < length before → turn < length before → from < length before
    → (from ≡ place + turn) ⊎ (from + length before ≡ place + turn) → HasTurned before place turn now → IsAsked now from None after
    → HasTurned before place (turn + 1) after
turned-step before now place turn from after inside more below where_ was asked =
    subst (HasTurned before place (turn + 1)) (sym asked.only) (record {
      long = length-set now from (with_taken asked.share None) ∙ was.long;
      each = later-step before now from asked.share was.each asked.here;
      ended = λ i share at low high. elim (at_set now from i (with_taken asked.share None) share at) [
        | inl here ↦ sym (ap (λ (s : Share). s.ended) here.1)
        | inr there ↦ was.ended i share there.1 low (
            let inner = within now i share there.1 in let apart = there.0 in elim where_ [
              | inl is ↦ omega (arith, is, high, apart)
              | inr is ↦ omega (arith, is, inner, was.long)
            ])
      ];
      around = λ i share at high. elim (at_set now from i (with_taken asked.share None) share at) [
        | inl here ↦ sym (ap (λ (s : Share). s.ended) here.1)
        | inr there ↦ was.around i share there.1 (
            let apart = there.0 in elim where_ [
              | inl is ↦ absurd (omega (arith, is, high, below, apart))
              | inr is ↦ omega (arith, is, high, apart)
            ])
      ];
    })

-- ---- what stays

-- what an end doesn't change is as it was
pub later-map : {B : Type 0} (f : Share → B) → ((share : Share) → f (with_taken share None) ≡ f share) → (before after : List Share) → length after ≡ length before
    → AreLater before after → map f after ≡ map f before
later-map f stays [] [] long each = refl
later-map f stays [] (y ∷ ys) long each = absurd (omega (arith, long))
later-map f stays (x ∷ xs) [] long each = absurd (omega (arith, long))
later-map f stays (x ∷ xs) (y ∷ ys) long each =
    let rest : map f ys ≡ map f xs = later-map f stays xs ys (omega (arith, long)) (λ i share at. each (suc i) share at) in
    let first : f y ≡ f x = elim (each 0 x refl) [
      | inl is ↦ ap f (some-injective y x is)
      | inr is ↦ ap f (some-injective y (with_taken x None) is) ∙ stays x
    ] in λ i. first i ∷ rest i

pub later-all : (P : Share → Type 0) → ((share : Share) → P share → P (with_taken share None)) → (before after : List Share) → length after ≡ length before
    → AreLater before after → All P before → All P after
later-all P stays [] [] long each all = all
later-all P stays [] (y ∷ ys) long each all = absurd (omega (arith, long))
later-all P stays (x ∷ xs) [] long each all = absurd (omega (arith, long))
later-all P stays (x ∷ xs) (y ∷ ys) long each all =
    All-cons P y ys
    (elim (each 0 x refl) [
      | inl is ↦ subst P (sym (some-injective y x is)) (All-head P x xs all)
      | inr is ↦ subst P (sym (some-injective y (with_taken x None) is)) (stays x (All-head P x xs all))
    ])
    (later-all P stays xs ys (omega (arith, long)) (λ i share at. each (suc i) share at) (All-tail P x xs all))

pub puts-turned : (before : List Share) (place turn : ℕ) (after : List Share) → HasTurned before place turn after → puts after ≡ puts before
puts-turned before place turn after was = later-map (λ (s : Share). s.put) (λ s. refl) before after was.long was.each

pub taken-turned : (before : List Share) (place turn : ℕ) (after : List Share) → HasTurned before place turn after → taken_in after ≡ taken_in before
taken-turned before place turn after was = taken-same before after (later-map (λ (s : Share). s.taken) (λ s. refl) before after was.long was.each)

pub shares-turned : (before : List Share) (place turn : ℕ) (after : List Share) → HasTurned before place turn after → AreShares 1 before → AreShares 1 after
shares-turned before place turn after was are = record {
  each = later-all (IsShare 1) (λ share is. record { weighs = is.weighs; closed = is.closed; few = is.few }) before after was.long was.each are.each;
  once = λ number. subst (λ l. times number l ≤ 1) (sym (handed-same before after (puts-turned before place turn after was))) (are.once number);
}

-- ---- where all were asked

all_ended : (shares : List Share) → ((i : ℕ) (share : Share) → get_elem? shares i ≡ some share → share.ended ≡ true) → have_ended shares ≡ true
all_ended [] each = refl
all_ended (x ∷ xs) each = ap (λ b. b && have_ended xs) (each 0 x refl) ∙ all_ended xs (λ i share at. each (suc i) share at)

pub turned-all : (before : List Share) (place : ℕ) (after : List Share) → HasTurned before place (length before) after → have_ended after ≡ true
turned-all before place after was = all_ended after (λ i share at. (
    let inner = within after i share at in elim (cases_le place i) [
      | inl low ↦ was.ended i share at low (omega (arith, inner, was.long, low))
      | inr high ↦ was.around i share at (omega (arith, high))
    ]))
  where
    cases_le : (a b : ℕ) → (a ≤ b) ⊎ (b < a)
    cases_le zero b = inl (omega arith)
    cases_le (suc a) zero = inr (omega arith)
    cases_le (suc a) (suc b) = elim (cases_le a b) [
      | inl le ↦ inl (omega (arith, le))
      | inr lt ↦ inr (omega (arith, lt))
    ]
