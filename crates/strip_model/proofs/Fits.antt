-- Pairs that fit, with a pair more.
use Rattle.std.proofs.Common.{◌≡◌, ◌≢◌, ℕ, ◌+◌, ◌<◌, Bool, true, false, List, [], ◌∷◌, ◌++◌, length, get_or, take, drop, Contains, sym, ◌∙◌, subst, arith}
use Rattle.std.proofs.Math.Seq.{get_or-append_seam}
use Rattle.std.proofs.lemmas.List.{get_or_append_left, length-append, take-append-drop, take_more}
use Rattle.std.proofs.lemmas.List.Elements.{All-nil, All-cons, All-append, All-contains, Contains-get_or, Contains-push}
use Rattle.std.proofs.lemmas.List.Quantifiers.{all_pairs_push}
use Rattle.strip_model.specs.declared.pair.Pair.{Pair}
use Rattle.strip_model.specs.Pairs.{FitPairs, IsChain, IsKnownPair, Leads, Precedes}
use Rattle.strip_model.proofs.Leads.{cycle_more, cycle-push, no_cycle-push}

pub never_both : (b : Bool) → b ≡ true → b ≡ false → ⊥
never_both b holds fails = absurd (let same : true ≡ false = sym holds ∙ fails in cc)

-- no pairs fit
none_before : (first second : ℕ) → Precedes [] first second → ⊥
none_before first second contained = omega (arith, contained.1)

no_chain : (scene last : ℕ) (between : List ℕ) → IsChain [] (scene ∷ between ++ last ∷ []) → ⊥
no_chain scene last [] chain = none_before scene last chain.0
no_chain scene last (next ∷ later) chain = none_before scene next chain.0

pub fit-none : (n : ℕ) → FitPairs n []
fit-none n = record {
  known = λ k d within. absurd (omega arith);
  once = λ i j d before within. absurd (omega arith);
  no_cycle = λ cycle. no_chain cycle.scene cycle.scene cycle.between cycle.returns;
}

-- pairs at the front of pairs that fit do so too
pub fit-front : (n : ℕ) (front more : List Pair) → FitPairs n (front ++ more) → FitPairs n front
fit-front n front more fit = record {
  known = λ i d lt. subst (IsKnownPair n) (get_or_append_left front more d i lt) (fit.known i d (omega (arith, length-append front more)));
  once = λ i j d lt within same. fit.once i j d lt (omega (arith, length-append front more))
      (get_or_append_left front more d i (omega arith) ∙ same ∙ sym (get_or_append_left front more d j within));
  no_cycle = λ cycle. fit.no_cycle (cycle_more front more cycle);
}

pub fit-take : (n i : ℕ) (pairs : List Pair) → FitPairs n pairs → FitPairs n (take i pairs)
fit-take n i pairs fit = fit-front n (take i pairs) (drop i pairs) (subst (FitPairs n) (sym (take-append-drop i pairs)) fit)

-- so pairs don't fit where the first of them and the next one don't
pub not_fit-take : (n i : ℕ) (pairs : List Pair) (d : Pair) → i < length pairs → (FitPairs n (take i pairs ++ get_or pairs i d ∷ []) → ⊥) → FitPairs n pairs → ⊥
not_fit-take n i pairs d within refused fit = refused (subst (FitPairs n) (take_more pairs i d within) (fit-take n (i + 1) pairs fit))

module _ (n : ℕ) (pairs : List Pair) (pair : Pair) where
  pub fit-push : FitPairs n pairs → IsKnownPair n pair → (Contains pairs pair → ⊥) → (Leads pairs pair.then pair.first → ⊥) → FitPairs n (pairs ++ pair ∷ [])
  fit-push fit known absent back = record {
    known = All-append (IsKnownPair n) pairs (pair ∷ []) fit.known (All-cons (IsKnownPair n) pair [] known (All-nil (IsKnownPair n)));
    once = all_pairs_push (λ a b. a ≢ b) pairs pair fit.once (λ k d within same. absent (subst (Contains pairs) same (Contains-get_or pairs k d within)));
    no_cycle = no_cycle-push pairs pair fit.no_cycle known.2 back;
  }

  module _ (fit : FitPairs n (pairs ++ pair ∷ [])) where
    pub last_known : IsKnownPair n pair
    last_known = All-contains (IsKnownPair n) (pairs ++ pair ∷ []) pair fit.known (Contains-push pairs pair)

    pub last_once : Contains pairs pair → ⊥
    last_once (k, within, at) = fit.once k (length pairs) pair within (omega (arith, length-append pairs (pair ∷ [])))
        (get_or_append_left pairs (pair ∷ []) pair k within ∙ at ∙ sym (get_or-append_seam pairs pair [] pair))

    pub last_not_back : Leads pairs pair.then pair.first → ⊥
    last_not_back back = fit.no_cycle (cycle-push pairs pair back)
