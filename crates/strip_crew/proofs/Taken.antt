-- Asks that take their values one after the other.
use Rattle.std.proofs.Common.{◌≡◌, ℕ, ◌+◌, ◌<◌, ◌≤◌, ◌⊎◌, inl, inr, false, List, length, length-set, slice_index_or, slice_set, sym, subst, ◌∙◌, arith}
use Rattle.std.proofs.Math.Nat.{eq-or-lt_of_le}
use Rattle.std.proofs.lemmas.List.{get_or-set_same, get_or-set_other, get_or_default}
use Rattle.strip_model.specs.declared.kind.Kind.{Kind}
use Rattle.strip_model.specs.Film.{FilmData}
use Rattle.strip_layers.specs.declared.ask.Ask.{Ask}
use Rattle.strip_layers.specs.Asks.{AreAnswered, IsAnswer, Suffices}
use Rattle.strip_crew.specs.Spread.{IsValue}

-- those before a number are answered, and the others are as they were
pub record AreAnsweredTo (kind : Kind) (film : FilmData) (before now : List Ask) (number : ℕ) : Type 0 where
  pub count : length now ≡ length before
  pub done : (place : ℕ) (d : Ask) → place < number → IsAnswer kind film (slice_index_or before place d) (slice_index_or now place d)
  pub rest : (place : ℕ) (d : Ask) → number ≤ place → slice_index_or now place d ≡ slice_index_or before place d

-- one more
pub answered_more : (kind : Kind) (film : FilmData) (before now : List Ask) (number : ℕ) (new : Ask) → AreAnsweredTo kind film before now number
    → number < length before → ((d : Ask) → IsAnswer kind film (slice_index_or before number d) new)
    → AreAnsweredTo kind film before (slice_set now number new) (number + 1)
answered_more kind film before now number new are within one = record {
  count = length-set now number new ∙ are.count;
  done = λ place d below. done_at place d (eq-or-lt_of_le (omega arith));
  rest = λ place d from. get_or-set_other now number place new d (λ same. omega arith) ∙ are.rest place d (omega arith);
}
  where
    done_at : (place : ℕ) (d : Ask) → (place ≡ number) ⊎ (place < number)
        → IsAnswer kind film (slice_index_or before place d) (slice_index_or (slice_set now number new) place d)
    done_at place d (inl same) =
        subst (λ (p : ℕ). IsAnswer kind film (slice_index_or before p d) (slice_index_or (slice_set now number new) p d)) (sym same)
        (subst (λ (a : Ask). IsAnswer kind film (slice_index_or before number d) a)
        (sym (get_or-set_same now number new d (omega (arith, are.count)))) (one d))
    done_at place d (inr below) =
        subst (λ (a : Ask). IsAnswer kind film (slice_index_or before place d) a)
        (sym (get_or-set_other now number place new d (λ same. omega arith))) (are.done place d below)

-- all of them
pub answered_all : (kind : Kind) (film : FilmData) (before now : List Ask) (number : ℕ) → AreAnsweredTo kind film before now number
    → length before ≤ number → AreAnswered kind film before now
answered_all kind film before now number are all = record {
  count = are.count;
  each = λ place d within. are.done place d (omega arith);
}

-- an ask that is as it was, and whose value was found, is answered by whatever takes the value if it suffices
pub answered_value : (kind : Kind) (film : FilmData) (before now : List Ask) (number value : ℕ) (new d e : Ask) → AreAnsweredTo kind film before now number
    → number < length before → IsValue kind film before number value
    → (((slice_index_or now number e).is_known ≡ false
    → Suffices kind film (slice_index_or now number e).set (slice_index_or now number e).need value)
    → IsAnswer kind film (slice_index_or now number e) new)
    → IsAnswer kind film (slice_index_or before number d) new
answered_value kind film before now number value new d e are within is takes =
    subst (λ (a : Ask). IsAnswer kind film a new) (get_or_default before number e d within)
    (subst (λ (a : Ask). (a.is_known ≡ false → Suffices kind film a.set a.need value) → IsAnswer kind film a new) (are.rest number e (omega arith)) takes
    (is.asked e within))
