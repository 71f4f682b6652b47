-- What a taker was given is drawn.
use Rattle.std.proofs.Common.{◌≡◌, ℕ, ◌+◌, ◌<◌, ◌≤◌, ◌⊎◌, Bool, true, false, cond, eqb, Option, Some, None, MatchOption, List, [], ◌∷◌, inl, inr, refl, sym, ap, ◌∙◌, subst, arith}
use Rattle.std.specs.Prelude.{nat_lt}
use Rattle.std.proofs.lemmas.Bool.{cases_Bool, cases_lt, cond-false, eqb-true, le-ltb}
use Rattle.strip_mask.proofs.Lists.{count-cons}
use Rattle.strip_least.specs.declared.view.View.{View as LeastView}
use Rattle.strip_least.specs.Rule.{once_below, times}
use Rattle.strip_steal.specs.declared.taker.Taker.{Taker}
use Rattle.strip_steal.proofs.Handed.{handed-same}
use Rattle.strip_steal.specs.Taker.{IsTaker, StayAt, handed_in, taken_in, taker_queues, taker_shares}
use Rattle.strip_crew.specs.declared.source.Source.TheVariants.{Takes}
use Rattle.strip_crew.specs.Source.{AreTasks, Draws, FindsNone, GivesPart, HasTaker}
use Rattle.strip_crew.specs.Source.SourceHome.{OfQueues}

by_bool : (b : Bool) (P : Bool → Type 0) → P true → P false → P b
by_bool true P yes_ no_ = yes_
by_bool false P yes_ no_ = no_

-- what isn't below the end isn't once below it
not_once : (number end : ℕ) → once_below number end ≡ 1 → number < end
not_once number end once = elim (cases_lt number end) [
  | inl below ↦ below
  | inr above ↦ absurd (
      let none : once_below number end ≡ 0 = cond-false (nat_lt number end) 1 0 (le-ltb number end above) in
      omega (arith, none, once))
]

module _ (taker after : Taker) (told : LeastView) (has : HasTaker taker told.parts told.claims) (is_taker : IsTaker after)
    (stays : StayAt (taker_queues taker) (taker_queues after) (taker_shares taker) (taker_shares after)) where
  handed : handed_in (taker_shares after) ≡ handed_in (taker_shares taker)
  handed = handed-same (taker_shares taker) (taker_shares after) stays.puts

  still : ((part : ℕ) → times part (taken_in (taker_shares after)) ≤ times part (handed_in (taker_shares taker))) → HasTaker after told.parts told.claims
  still few = record {
    is_taker = is_taker;
    tasks = subst (AreTasks told.parts) (sym handed) has.tasks;
    few = λ part. subst (λ (numbers : List ℕ). times part (taken_in (taker_shares after)) ≤ times part numbers) (sym handed) (few part);
    unclaimed = has.unclaimed;
  }

  unclaimed : (part : ℕ) → times part told.claims ≡ 0
  unclaimed part = ap (times part) has.unclaimed

  -- the number is one of those that were handed in, and not the front
  pub draws : (answer : Option ℕ) → MatchOption answer (FindsNone taker after) (λ part. GivesPart taker part after) → Draws (Takes taker) told answer (Takes after) told
  draws None none = record {
    only = refl;
    same = none.same;
    ended = none.ended;
    source = still (λ part. omega (arith, none.same part, has.few part));
    home = (λ i. OfQueues (stays.queues i) (stays.puts i));
  }
  draws (Some part) gives = record {
    only = refl;
    below = (
        let tasks : times part (handed_in (taker_shares taker)) + once_below part 1 ≡ once_below part told.parts = has.tasks part in
        not_once part told.parts (omega (arith, tasks, gives.handed, at_most part told.parts)));
    fresh = omega (arith, unclaimed part, gives.fresh);
    more = λ other. omega (arith, gives.took other);
    source = still (λ other. few other (cases_Bool (eqb part other)));
    home = (λ i. OfQueues (stays.queues i) (stays.puts i));
  }
    where
      at_most : (number end : ℕ) → once_below number end ≤ 1
      at_most number end = by_bool (nat_lt number end) (λ b. cond {A = ℕ} b 1 0 ≤ 1) (omega arith) (omega arith)

      few : (other : ℕ) → (eqb part other ≡ true) ⊎ (eqb part other ≡ false) → times other (taken_in (taker_shares after)) ≤ times other (handed_in (taker_shares taker))
      few other (inl here) =
          let same : other ≡ part = sym (eqb-true part other here) in
          let one : times other (part ∷ []) ≡ cond {A = ℕ} (eqb part other) 1 0 + 0 = count-cons other part [] in
          let single : cond {A = ℕ} (eqb part other) 1 0 ≡ 1 = ap (λ (b : Bool). cond {A = ℕ} b 1 0) here in
          let none : times other (taken_in (taker_shares taker)) ≡ 0 = ap (λ (p : ℕ). times p (taken_in (taker_shares taker))) same ∙ gives.fresh in
          let there : times other (handed_in (taker_shares taker)) ≡ 1 = ap (λ (p : ℕ). times p (handed_in (taker_shares taker))) same ∙ gives.handed in
          omega (arith, gives.took other, one, single, none, there)
      few other (inr apart) =
          let one : times other (part ∷ []) ≡ cond {A = ℕ} (eqb part other) 1 0 + 0 = count-cons other part [] in
          let nothing : cond {A = ℕ} (eqb part other) 1 0 ≡ 0 = ap (λ (b : Bool). cond {A = ℕ} b 1 0) apart in
          omega (arith, gives.took other, one, nothing, has.few other)
