-- The price of a scene is at most what those who wait at it are paid.
use Rattle.std.proofs.Common.{◌≡◌, ℕ, suc, ◌+◌, ◌<◌, ◌≤◌, true, false, not, List, ◌++◌, Contains, filter, length, take, drop, slice_index, sym, ap, ◌∙◌, subst, inl, inr, arith, length-append}
use Rattle.std.proofs.Math.Seq.{take-append_seam, drop-append_seam}
use Rattle.std.proofs.lemmas.Bool.{false≢true, false_from_ne_true, not_from_false, or_left, and_from}
use Rattle.std.proofs.lemmas.List.Elements.{Contains-append_left}
use Rattle.strip_mask.specs.Set.{has, union, meet, minus, numbers_below, sum_over}
use Rattle.strip_mask.proofs.ByMembers.{has-union, has-meet, has-minus, has_from_meet, has_from_minus, has_from_union}
use Rattle.strip_mask.proofs.Totals.{sum_over_mono, sum_over-minus, sum_over-union}
use Rattle.strip_mask.specs.Least.{least_over}
use Rattle.strip_group.specs.Group.{GroupData}
use Rattle.strip_arrivals.specs.Arrivals.{StateData, actors_of, can_have_come, is_open, is_without, mates, paid_where, price}
use Rattle.strip_mask.proofs.Members.{contains_number}
use Rattle.strip_mask.proofs.Least.{least_over_le}
use Rattle.strip_arrivals.proofs.Lists.{contains_filter}
use Rattle.strip_arrivals.proofs.Casts.{has_listed, is_none, listed_has, none_works}

-- those who wait at a scene that was shot, as far as the state tells: who is here and doesn't work in it, the newcomers among
-- them as far as they had come, and who works with those who came later
pub record AreWaiting (film : GroupData) (set group : ℕ) (state : StateData) (scene waiters : ℕ) : Type 0 where
  pub stay : (actor : ℕ) → has group actor ≡ true → has state.left actor ≡ false → has (slice_index film.casts scene) actor ≡ false → has waiters actor ≡ true
  pub early : List ℕ
  pub later : List ℕ
  pub are_here : state.here ≡ early ++ later
  pub came : (actor : ℕ) → has (actors_of early) actor ≡ true → has (slice_index film.casts scene) actor ≡ false → has waiters actor ≡ true
  pub not_yet : (actor : ℕ) → has (actors_of later) actor ≡ true → has (slice_index film.casts scene) actor ≡ true → ⊥
  pub kept : (actor : ℕ) → has group actor ≡ true → has (mates film set (actors_of later)) actor ≡ true → has (slice_index film.casts scene) actor ≡ false
      → has waiters actor ≡ true

module _ (film : GroupData) (set group : ℕ) where
  -- of three sets of those who wait, the last of none of the group
  add_up : (waiters left a b c : ℕ) → ((i : ℕ) → has a i ≡ true → (has waiters i ≡ true) × (has group i ≡ true) × (has left i ≡ false))
      → ((i : ℕ) → has b i ≡ true → (has waiters i ≡ true) × (has group i ≡ true) × (has left i ≡ true)) → ((i : ℕ) → has c i ≡ true
      → (has waiters i ≡ true) × (has group i ≡ false))
      → sum_over film.holds a + (sum_over film.holds c + sum_over film.holds b) ≤ sum_over film.holds waiters
  add_up waiters left a b c in_a in_b in_c =
      let apart : sum_over film.holds (union a b) ≡ sum_over film.holds a + sum_over film.holds b
      = sum_over-union film.holds a b (λ i there. false_from_ne_true (has b i) (λ also. false≢true (sym (in_a i there).2 ∙ (in_b i also).2))) in
      let of_group : sum_over film.holds (union a b) ≤ sum_over film.holds (meet waiters group)
      = sum_over_mono film.holds (union a b) (meet waiters group) (λ i there. has-meet waiters group i ∙ elim (has_from_union a b i there) [
        | inl first ↦ and_from (has waiters i) (has group i) (in_a i first).0 (in_a i first).1
        | inr second ↦ and_from (has waiters i) (has group i) (in_b i second).0 (in_b i second).1
      ]) in
      let of_others : sum_over film.holds c ≤ sum_over film.holds (minus waiters group)
      = sum_over_mono film.holds c (minus waiters group) (λ i there. has-minus waiters group i ∙ and_from (has waiters i) (not (has group i)) (in_c i there).0
      (not_from_false (has group i) (in_c i there).1)) in
      omega (arith, apart, of_group, of_others, sum_over-minus film.holds waiters group)

  pub price_le : (state : StateData) (scene waiters : ℕ) → AreWaiting film set group state scene waiters → is_open film state scene ≡ true
      → ((actor : ℕ) → has state.left actor ≡ true → has group actor ≡ true) → ((actor : ℕ) → has (actors_of state.here) actor ≡ true → has group actor ≡ false)
      → price film set group state scene ≤ sum_over film.holds waiters
  price_le state scene waiters waiting unpaid of_group outside =
      let cast : ℕ = slice_index film.casts scene in
      let number : ℕ = length waiting.early in
      let front : take number state.here ≡ waiting.early = ap (take number) waiting.are_here ∙ take-append_seam waiting.early waiting.later in
      let back : drop number state.here ≡ waiting.later = ap (drop number) waiting.are_here ∙ drop-append_seam waiting.early waiting.later in
      let within : number < suc (length state.here) = omega (arith, ap length waiting.are_here, length-append waiting.early waiting.later) in
      let possible : can_have_come film state scene number ≡ true
      = ap (λ (xs : List ℕ). is_without film (actors_of xs) scene) back ∙ is_none film (actors_of waiting.later) scene (λ i works there. waiting.not_yet i there works) in
      let fewest : least_over (paid_where film set state scene) (filter (can_have_come film state scene) (numbers_below (suc (length state.here))))
      ≤ paid_where film set state scene number
      = least_over_le (paid_where film set state scene) (filter (can_have_come film state scene) (numbers_below (suc (length state.here)))) number
      (contains_filter (can_have_come film state scene) (numbers_below (suc (length state.here))) number (contains_number (suc (length state.here)) number within) possible) in
      let here : paid_where film set state scene number
      ≡ sum_over film.holds (minus (actors_of waiting.early) cast) + sum_over film.holds (meet state.left (mates film set (actors_of waiting.later)))
      = ap (λ (xs : List ℕ). sum_over film.holds (minus (actors_of xs) cast) + sum_over film.holds (meet state.left (mates film set (actors_of (drop number state.here))))) front
      ∙ ap (λ (xs : List ℕ). sum_over film.holds (minus (actors_of waiting.early) cast) + sum_over film.holds (meet state.left (mates film set (actors_of xs)))) back in
      let sum = add_up waiters state.left (minus (minus group state.left) cast) (meet state.left (mates film set (actors_of waiting.later))) (minus (actors_of waiting.early) cast)
      (λ i there. let outer = has_from_minus (minus group state.left) cast i there in
      let inner = has_from_minus group state.left i outer.0 in
      (waiting.stay i inner.0 inner.1 outer.1, inner.0, inner.1))
      (λ i there. let both = has_from_meet state.left (mates film set (actors_of waiting.later)) i there in
      let known = of_group i both.0 in
      let absent : has cast i ≡ false = false_from_ne_true (has cast i) (λ works. none_works film (union state.left state.gone) scene i unpaid works
      (has-union state.left state.gone i ∙ or_left (has state.left i) (has state.gone i) both.0)) in
      (waiting.kept i known both.1 absent, known, both.0))
      (λ i there. let outer = has_from_minus (actors_of waiting.early) cast i there in
      let listed : Contains state.here i = subst (λ (xs : List ℕ). Contains xs i) (sym waiting.are_here)
      (Contains-append_left waiting.early waiting.later i (listed_has waiting.early i outer.0)) in
      (waiting.came i outer.0 outer.1, outside i (has_listed state.here i listed))) in
      omega (arith, fewest, here, sum)
