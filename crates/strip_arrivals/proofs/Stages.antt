-- Who of the newcomers is to come, is here and is gone, stage by stage.
use Rattle.std.proofs.Common.{◌≡◌, ◌≢◌, ℕ, ◌||◌, eqb, Bool, true, false, List, [], ◌∷◌, length, slice_index, refl, sym, ap, ◌∙◌, inl, inr, arith}
use Rattle.strip_mask.specs.Set.{has, with}
use Rattle.strip_mask.proofs.ByMembers.{IsSet-empty, has-empty, has-with, has-with_other, has_from_with, empty_has}
use Rattle.strip_arrivals.specs.Company.{ArePair, IsStage}
use Rattle.strip_arrivals.proofs.Masks.{pair_is, pair_turned}

-- a test stays what it is with nobody before it
none_before : (b : Bool) (i : ℕ) → b ≡ (has 0 i || b)
none_before b i = ap (λ c. c || b) (sym (has-empty i))

-- and with nobody behind
none_behind : (b : Bool) (i : ℕ) → b ≡ (b || has 0 i)
none_behind b i = at_end b ∙ ap (λ c. b || c) (sym (has-empty i))
  where
    at_end : (b : Bool) → b ≡ (b || false)
    at_end true = refl
    at_end false = refl

-- who is one of two is the one or the other
either_of : (one other i : ℕ) → has (with (with 0 one) other) i ≡ (has (with 0 other) i || has (with 0 one) i)
either_of one other i = has-with (with 0 one) other i
    ∙ ap (λ b. b || has (with 0 one) i) (none_behind (eqb other i) i ∙ sym (has-with 0 other i))

-- who is one of two isn't the other
not_other : (one other i : ℕ) → one ≢ other → has (with 0 one) i ≡ true → has (with 0 other) i ≡ false
not_other one other i apart there = elim (has_from_with 0 one i there) [
  | inl is ↦ has-with_other 0 other i (λ same. apart (is ∙ sym same)) ∙ has-empty i
  | inr none ↦ absurd (empty_has i none)
]

-- nobody is no two
none_twice : (first second : ℕ) → [] ≡ first ∷ second ∷ [] → first ≢ second
none_twice first second same = absurd (omega (arith, ap (length {A = ℕ}) same))

-- nor is one
one_once : (one first second : ℕ) → one ∷ [] ≡ first ∷ second ∷ [] → first ≢ second
one_once one first second same = absurd (omega (arith, ap (length {A = ℕ}) same))

-- ---- any newcomers

-- all are gone
pub stage_over : (newcomers : ℕ) → IsStage newcomers 0 [] newcomers
stage_over newcomers = record {
  whole = λ actor. none_before (has newcomers actor) actor ∙ none_before (has 0 actor || has newcomers actor) actor;
  not_both = λ actor there. absurd (empty_has actor there);
  not_gone = λ actor there. absurd (empty_has actor there);
  once = none_twice;
  small = IsSet-empty;
}

-- ---- one newcomer

-- he is here
pub stage_alone_one : (newcomers one : ℕ) → newcomers ≡ with 0 one → IsStage newcomers 0 (one ∷ []) 0
stage_alone_one newcomers one is = record {
  whole = λ actor. ap (λ (s : ℕ). has s actor) is ∙ none_behind (has (with 0 one) actor) actor ∙ none_before (has (with 0 one) actor || has 0 actor) actor;
  not_both = λ actor there. absurd (empty_has actor there);
  not_gone = λ actor there. has-empty actor;
  once = one_once one;
  small = IsSet-empty;
}

-- ---- two newcomers

-- each newcomer is one of them
one_or_other : (newcomers one other : ℕ) → ArePair newcomers one other → (i : ℕ) → has newcomers i ≡ (has (with 0 one) i || has (with 0 other) i)
one_or_other newcomers one other pair i = ap (λ (s : ℕ). has s i) (sym (pair_is newcomers other one (pair_turned newcomers one other pair))) ∙ either_of other one i

-- the one is here, and the other is gone
pub stage_alone : (newcomers one other : ℕ) → ArePair newcomers one other → IsStage newcomers 0 (one ∷ []) (with 0 other)
stage_alone newcomers one other pair = record {
  whole = λ actor. one_or_other newcomers one other pair actor ∙ none_before (has (with 0 one) actor || has (with 0 other) actor) actor;
  not_both = λ actor there. absurd (empty_has actor there);
  not_gone = λ actor there. not_other one other actor pair.apart there;
  once = one_once one;
  small = IsSet-empty;
}

-- both are here, the one came first
pub stage_both : (newcomers one other : ℕ) → ArePair newcomers one other → IsStage newcomers 0 (one ∷ other ∷ []) 0
stage_both newcomers one other pair = record {
  whole = λ actor. ap (λ (s : ℕ). has s actor) (sym (pair_is newcomers other one (pair_turned newcomers one other pair)))
      ∙ none_behind (has (with (with 0 other) one) actor) actor ∙ none_before (has (with (with 0 other) one) actor || has 0 actor) actor;
  not_both = λ actor there. absurd (empty_has actor there);
  not_gone = λ actor there. has-empty actor;
  once = λ first second same equal. pair.apart (ap (λ (actors : List ℕ). slice_index actors 0) same ∙ equal ∙ sym (ap (λ (actors : List ℕ). slice_index actors 1) same));
  small = IsSet-empty;
}
