-- What is saved, as what is paid: a pass that raises what is saved lowers what is paid.
use Rattle.std.proofs.Common.{◌≡◌, ℕ, zero, suc, ◌+◌, ◌*◌, ◌-◌, ◌^◌, ◌<◌, ◌≤◌, true, List, slice_index, sym, ap, ◌∙◌, inl, inr, arith}
use Rattle.std.proofs.lemmas.Bool.{cases_eq}
use Rattle.strip_mask.specs.Set.{IsSet, has, sum_over, without}
use Rattle.strip_mask.proofs.Below.{is_set_below}
use Rattle.strip_mask.proofs.ByMembers.{below_width, some_member}
use Rattle.strip_mask.proofs.Totals.{sum_over-without}
use Rattle.strip_sets.specs.Saving.{Saves}
use Rattle.strip_sets.proofs.Sets.{without_less}
use Rattle.strip_arrivals.proofs.Lowered.{IsLowered}

-- the days of one who leaves cost him and the others
leaving_days : (hold rest now before : ℕ) → before ≤ now → (hold + rest) * now ≡ (hold + rest) * (now - before) + (hold * before + rest * before)
leaving_days hold rest now before rise =
    let split : now ≡ (now - before) + before = omega (arith, rise) in
    ap (λ (days : ℕ). (hold + rest) * days) split ∙ spread hold rest (now - before) before
  where
    spread : (hold rest more before : ℕ) → (hold + rest) * (more + before) ≡ (hold + rest) * more + (hold * before + rest * before)
    spread hold rest more before = omega arith

-- a step that saves no more than another way costs no less
no_less_paid : (base all more_days held rest owed now then most before cost : ℕ) → all ≡ more_days + (held + rest) → cost ≡ more_days + owed + (now - then)
    → then ≤ now → before + held ≤ most + owed → before ≤ base + rest + then → base + all + now - most ≤ (base + rest + then - before) + cost
no_less_paid base all more_days held rest owed now then most before cost is_all is_cost rise no_less low = omega (arith, is_all, is_cost, rise, no_less, low)

-- and one that saves as much costs as much
as_much_paid : (base all more_days held rest owed now then most before cost : ℕ) → all ≡ more_days + (held + rest) → cost ≡ more_days + owed + (now - then)
    → then ≤ now → most + owed ≡ before + held → before ≤ base + rest + then → most ≤ base + all + now
    → base + all + now - most ≡ (base + rest + then - before) + cost
as_much_paid base all more_days held rest owed now then most before cost is_all is_cost rise same low low_too = omega (arith, is_all, is_cost, rise, same, low, low_too)

module _ (count : ℕ) (few : count ≤ 10) (holds : List ℕ) (base : ℕ) (days more : ℕ → ℕ)
    (rise : (set place : ℕ) → set < 2 ^ count → has set place ≡ true → days (without set place) ≤ days set)
    (rise_more : (set place : ℕ) → set < 2 ^ count → has set place ≡ true → more (without set place) ≤ more set) where
  -- the most that can be paid
  abbrev pub top : ℕ → ℕ
  top set = base + sum_over holds set * days set + more set

  -- sets of places are sets
  pub places_small : (set : ℕ) → set < 2 ^ count → IsSet set
  places_small set lt = is_set_below count set (omega (arith, few)) (λ place there. below_width set count place lt there)

  with_hold : (set place : ℕ) → set < 2 ^ count → has set place ≡ true → sum_over holds set ≡ slice_index holds place + sum_over holds (without set place)
  with_hold set place lt there = (let parts = sum_over-without holds set place (places_small set lt) there in omega (arith, parts))

  all_days : (set place : ℕ) → set < 2 ^ count → has set place ≡ true
      → sum_over holds set * days set ≡ sum_over holds set * (days set - days (without set place))
      + (slice_index holds place * days (without set place) + sum_over holds (without set place) * days (without set place))
  all_days set place lt there =
      let hold : ℕ = slice_index holds place in
      let rest : ℕ = sum_over holds (without set place) in
      ap (λ (rate : ℕ). rate * days set) (with_hold set place lt there)
      ∙ leaving_days hold rest (days set) (days (without set place)) (rise set place lt there)
      ∙ ap (λ (rate : ℕ). rate * (days set - days (without set place)) + (hold * days (without set place) + rest * days (without set place))) (sym (with_hold set place lt there))

  module _ (owed : ℕ → ℕ → ℕ) (first most : ℕ → ℕ) (saves : Saves count (slice_index holds) days owed first most)
      (begun : (set : ℕ) → set < 2 ^ count → first set ≤ top set) where
    -- no more is saved than can be paid
    pub within : (set : ℕ) → set < 2 ^ count → most set ≤ top set
    within set lt = below (suc set) set (omega arith) lt
      where
        below : (n set : ℕ) → set < n → set < 2 ^ count → most set ≤ top set
        below zero set none lt = absurd (omega (arith, none))
        below (suc n) set fewer lt = elim (saves.attained set lt) [
          | inl same ↦ (let low = begun set lt in omega (arith, same, low))
          | inr step ↦ (
              let before : ℕ = without set step.0 in
              let less : before < set = without_less set step.0 step.1 in
              let low : most before ≤ top before = below n before (omega (arith, less, fewer)) (omega (arith, less, lt)) in
              omega (arith, step.2, low, all_days set step.0 lt step.1, rise_more set step.0 lt step.1))
        ]

    -- what the empty set saves all sets save, if nothing is owed
    pub all_save : (low : ℕ) → low ≤ first 0 → ((set before : ℕ) → owed set before ≡ 0) → (set : ℕ) → set < 2 ^ count → low ≤ most set
    all_save low none free set lt = below (suc set) set (omega arith) lt
      where
        below : (n set : ℕ) → set < n → set < 2 ^ count → low ≤ most set
        below zero set none_left lt = absurd (omega (arith, none_left))
        below (suc n) set fewer lt = elim (cases_eq set 0) [
          | inl empty ↦ (let kept = saves.kept set lt in omega (arith, kept, none, ap first empty))
          | inr some ↦ (
              let member = some_member set (places_small set lt) some in
              let before : ℕ = without set member.0 in
              let less : before < set = without_less set member.0 member.2 in
              let low_before = below n before (omega (arith, less, fewer)) (omega (arith, less, lt)) in
              let step = saves.higher set member.0 lt member.2 in
              omega (arith, step, low_before, free set before))
        ]

    -- what is paid is lowered by the pass
    pub lowered : (cost : ℕ → ℕ → ℕ) → ((set place : ℕ) → set < 2 ^ count → has set place ≡ true
        → cost set (without set place) ≡ sum_over holds set * (days set - days (without set place)) + owed set (without set place)
        + (more set - more (without set place)))
        → IsLowered count cost (λ set. top set - first set) (λ set. top set - most set)
    lowered cost costs = record {
      kept = λ set lt. (let raised = saves.kept set lt in omega (arith, raised));
      lower = λ set place lt there. (
          let before : ℕ = without set place in
          let less : before < set = without_less set place there in
          no_less_paid base (sum_over holds set * days set) (sum_over holds set * (days set - days before)) (slice_index holds place * days before)
          (sum_over holds before * days before) (owed set before) (more set) (more before) (most set) (most before) (cost set before)
          (all_days set place lt there) (costs set place lt there) (rise_more set place lt there) (saves.higher set place lt there)
          (within before (omega (arith, less, lt))));
      attained = λ set lt. elim (saves.attained set lt) [
        | inl same ↦ inl (ap (λ (saved : ℕ). top set - saved) same)
        | inr step ↦ (
            let before : ℕ = without set step.0 in
            let less : before < set = without_less set step.0 step.1 in
            inr (
              step.0,
              step.1,
              as_much_paid base (sum_over holds set * days set) (sum_over holds set * (days set - days before)) (slice_index holds step.0 * days before)
                  (sum_over holds before * days before) (owed set before) (more set) (more before) (most set) (most before) (cost set before)
                  (all_days set step.0 lt step.1) (costs set step.0 lt step.1) (rise_more set step.0 lt step.1) step.2
                  (within before (omega (arith, less, lt))) (within set lt),
            ))
      ];
    }
