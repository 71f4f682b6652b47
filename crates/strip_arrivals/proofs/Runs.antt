-- The value is what is paid along some run, and along none less.
use Rattle.std.proofs.Common.{◌≡◌, ℕ, zero, suc, ◌+◌, ◌<◌, ◌≤◌, ◌⊎◌, Bool, true, false, not, ◌&&◌, ◌||◌, eqb, List, [], ◌∷◌, ◌++◌, Contains, filter, map, length, refl, sym, ap, ◌∙◌, subst, inl, inr, arith, length-append}
use Rattle.std.proofs.lemmas.Bool.{false≢true, eq-eqb}
use Rattle.std.proofs.lemmas.List.Elements.{All-contains_itself, All-weaker, Contains-append_cases}
use Rattle.std.proofs.lemmas.List.Filters.{length-filter_both}
use Rattle.std.proofs.lemmas.List.Sums.{list_all-from_AllPass}
use Rattle.strip_mask.specs.Set.{IsSet, has, members, minus, size, with, without}
use Rattle.strip_mask.proofs.ByMembers.{IsSet-minus, IsSet-without, empty_from, has-minus, has-with, has-without, same_has, empty_has}
use Rattle.strip_mask.proofs.Members.{Contains-members, has_from_members, members-empty}
use Rattle.strip_mask.proofs.Sizes.{size-without}
use Rattle.std.proofs.lemmas.Bool.{false_from_ne_true}
use Rattle.strip_group.specs.Group.{GroupData}
use Rattle.strip_arrivals.specs.Arrivals.{Event, IsLeastTotal, IsOver, IsRun, StateData, after, allowed, arrivals_value, at_first, charge, closed_by, comes, events, events_left, goes, is_allowed, is_without, least_total, leaves, total}
use Rattle.strip_mask.proofs.Least.{least_over_attained}
use Rattle.strip_arrivals.proofs.Lists.{contains_filter, contains_from_filter, contains_from_map, contains_map, none_there, some_or_none}
use Rattle.strip_arrivals.proofs.Casts.{is_none}
use Rattle.strip_arrivals.proofs.Along.{by_event, can_come, can_go, can_leave, no_events, when_over}

-- a set whose members are none is empty
no_members : (set : ℕ) → IsSet set → ((i : ℕ) → Contains (members set) i → ⊥) → set ≡ 0
no_members set small none = empty_from set (λ i. false_from_ne_true (has set i) (λ there. none i (Contains-members set i small there)))

-- who has still to leave after one has left
pub minus-with : (group left actor : ℕ) → minus group (with left actor) ≡ without (minus group left) actor
minus-with group left actor = same_has (minus group (with left actor)) (without (minus group left) actor) (λ i.
    has-minus group (with left actor) i ∙ ap (λ b. has group i && not b) (has-with left actor i)
    ∙ regroup (has group i) (eqb actor i) (has left i)
    ∙ sym (has-without (minus group left) actor i ∙ ap (λ b. not (eqb actor i) && b) (has-minus group left i)))
  where
    regroup : (g a l : Bool) → (g && not (a || l)) ≡ (not a && (g && not l))
    regroup true true l = refl
    regroup true false l = refl
    regroup false true l = refl
    regroup false false l = refl

-- a list without one that stands in it is shorter
shorter : (actors : List ℕ) (actor : ℕ) → Contains actors actor → length (filter (λ i. not (eqb i actor)) actors) < length actors
shorter actors actor there =
    let both = length-filter_both (λ i. not (eqb i actor)) (λ i. not (not (eqb i actor))) (λ i. refl) actors in
    let taken = contains_filter (λ i. not (not (eqb i actor))) actors actor there (ap (λ b. not (not b)) (eq-eqb actor actor refl)) in
    omega (arith, both, taken.1)

module _ (film : GroupData) (set group : ℕ) (small : IsSet group) where
  -- with nobody to come all is allowed
  pub all_fine : (state : StateData) (event : Event) → state.coming ≡ 0 → is_allowed film set state event ≡ true
  all_fine state event none =
      list_all-from_AllPass (is_without film state.coming) (closed_by film set state event)
      (All-weaker (Contains (closed_by film set state event)) (λ scene. is_without film state.coming scene ≡ true) (λ scene _.
      is_none film state.coming scene (λ i works expected. empty_has i (subst (λ k. has k i ≡ true) none expected)))
      (closed_by film set state event) (All-contains_itself (closed_by film set state event)))

  pub may : (state : StateData) (event : Event) → Contains (events group state) event → is_allowed film set state event ≡ true → Contains (allowed film set group state) event
  may state event there fine = contains_filter (is_allowed film set state) (events group state) event there fine

  -- all is over, or something can happen
  pub over_or_not : (state : StateData) → IsSet state.coming → IsOver group state ⊎ ((event : Event) × Contains (allowed film set group state) event)
  over_or_not state fits = elim (some_or_none (λ _. true) (members state.coming)) [
    | inl found ↦ inr (comes found.0, may state (comes found.0) (can_come group state found.0 fits (has_from_members state.coming found.0 found.1)) refl)
    | inr none ↦ (let nobody_comes : state.coming ≡ 0 = no_members state.coming fits (λ i there. false≢true (sym (none i there))) in
        elim (some_or_none (λ _. true) (members (minus group state.left))) [
          | inl found ↦ inr (leaves found.0, may state (leaves found.0) (can_leave group state found.0 found.1) (all_fine state (leaves found.0) nobody_comes))
          | inr none_stays ↦ elim (some_or_none (λ _. true) state.here) [
            | inl found ↦ inr (goes found.0, may state (goes found.0) (can_go group state found.0 found.1) (all_fine state (goes found.0) nobody_comes))
            | inr none_here ↦ inl (
              no_members (minus group state.left) (IsSet-minus group state.left small) (λ i there. false≢true (sym (none_stays i there))),
              nobody_comes,
              none_there state.here (λ i there. false≢true (sym (none_here i there))),
            )
          ]
        ])
  ]

  -- the events of a state, one kind after the other
  pub by_kind : (state : StateData) (event : Event) (P : Event → Type 0) → Contains (events group state) event
      → ((actor : ℕ) → has state.coming actor ≡ true → P (comes actor)) → ((actor : ℕ) → has (minus group state.left) actor ≡ true → P (leaves actor))
      → ((actor : ℕ) → Contains state.here actor → P (goes actor)) → P event
  by_kind state event P there by_coming by_leaving by_going = elim (Contains-append_cases (map comes (members state.coming) ++ map leaves (members (minus group state.left)))
      (map goes state.here) event there) [
        | inl first ↦ elim (Contains-append_cases (map comes (members state.coming)) (map leaves (members (minus group state.left))) event first) [
          | inl one ↦ (let found = contains_from_map comes (members state.coming) event one in
              subst P found.2 (by_coming found.0 (has_from_members state.coming found.0 found.1)))
          | inr one ↦ (let found = contains_from_map leaves (members (minus group state.left)) event one in
              subst P found.2 (by_leaving found.0 (has_from_members (minus group state.left) found.0 found.1)))
        ]
        | inr one ↦ (let found = contains_from_map goes state.here event one in subst P found.2 (by_going found.0 found.1))
      ]

  pub fewer_left : (state : StateData) (event : Event) → IsSet state.coming → Contains (events group state) event
      → (events_left group (after state event) < events_left group state) × IsSet (after state event).coming
  fewer_left state event fits there = by_kind state event (λ e. (events_left group (after state e) < events_left group state) × IsSet (after state e).coming) there
      (λ actor expected. (
        omega (arith, size-without state.coming actor fits expected, length-append state.here (actor ∷ [])),
        IsSet-without state.coming actor fits,
      ))
      (λ actor stays. (
        omega (arith, size-without (minus group state.left) actor (IsSet-minus group state.left small) stays, ap size (minus-with group state.left actor)),
        fits,
      ))
      (λ actor here. (omega (arith, shorter state.here actor here), fits))

  nothing_left : (n : ℕ) (state : StateData) → IsOver group state → least_total film set group n state ≡ 0
  nothing_left n state over = when_over film set group n state (no_events group state (ap members over.1 ∙ members-empty) (ap members over.0 ∙ members-empty) over.2)

  attained : (n : ℕ) (state : StateData) → events_left group state ≤ n → IsSet state.coming
      → (run : List Event) × IsRun film set group state run × (total film set group state run ≡ least_total film set group n state)
  attained zero state enough fits = elim (over_or_not state fits) [
    | inl over ↦ ([], over, refl)
    | inr some ↦ absurd (omega (arith, enough, (fewer_left state some.0 fits (contains_from_filter (is_allowed film set state) (events group state) some.0 some.1).0).0))
  ]
  attained (suc n) state enough fits = elim (over_or_not state fits) [
    | inl over ↦ ([], over, sym (nothing_left (suc n) state over))
    | inr some ↦ (
        let paid : Event → ℕ = λ e. charge film set group state e + least_total film set group n (after state e) in
        let best = least_over_attained (λ x. x) (map paid (allowed film set group state)) (paid some.0) (contains_map paid (allowed film set group state) some.0 some.1) in
        let first = contains_from_map paid (allowed film set group state) best.0 best.1 in
        let fewer = fewer_left state first.0 fits (contains_from_filter (is_allowed film set state) (events group state) first.0 first.1).0 in
        let later = attained n (after state first.0) (omega (arith, fewer.0, enough)) fewer.1 in
        (first.0 ∷ later.0, (first.1, later.1), omega (arith, later.2, first.2, best.2)))
  ]

  least : (n : ℕ) (state : StateData) (run : List Event) → IsRun film set group state run → least_total film set group n state ≤ total film set group state run
  least n state [] over = omega (arith, nothing_left n state over)
  least zero state (event ∷ later) is_run = omega arith
  least (suc n) state (event ∷ later) (first, rest) =
      let found = contains_from_filter (is_allowed film set state) (events group state) event first in
      omega (arith, by_event film set group n state event found.0 found.1, least n (after state event) later rest)

  pub value_is_least : (newcomers : ℕ) → IsSet newcomers → IsLeastTotal film set group (at_first newcomers) (arrivals_value film set group newcomers)
  value_is_least newcomers fits = record {
    attained = attained (events_left group (at_first newcomers)) (at_first newcomers) (omega arith) fits;
    least = least (events_left group (at_first newcomers)) (at_first newcomers);
  }
