-- A newcomer who comes at once is paid for no more than one who comes later.
use Rattle.std.proofs.Common.{◌≡◌, ℕ, ◌*◌, ◌≤◌, ◌⊎◌, Bool, true, false, not, cond, eqb, List, [], ◌∷◌, ◌++◌, All, Contains, filter, slice_index, sum_by, min, refl, sym, ap, ◌∙◌, subst, inl, inr, arith}
use Rattle.std.specs.List.{list_all}
use Rattle.std.proofs.lemmas.Bool.{cases_lt, false_from_ne_true}
use Rattle.std.proofs.lemmas.Bool.Decides.{eqb_tells}
use Rattle.std.proofs.lemmas.List.Elements.{All-head, All-tail, All-weaker, filter-append}
use Rattle.std.proofs.lemmas.List.Sums.{AllPass-from_list_all, list_all-from_AllPass, sum_by-cons}
use Rattle.std.proofs.lemmas.Nat.{mul-le}
use Rattle.strip_mask.specs.Set.{IsSet, has, minus, with, without}
use Rattle.strip_mask.proofs.ByMembers.{IsSet-minus, has_from_without, empty_has}
use Rattle.strip_mask.proofs.Members.{Contains-members}
use Rattle.strip_group.specs.Group.{GroupData}
use Rattle.strip_arrivals.specs.Arrivals.{Event, IsLeastTotal, IsRun, StateData, after, comes, events, goes, is_allowed, is_without, leaves, open_scenes, price, total}
use Rattle.strip_arrivals.proofs.Lists.{contains_from_filter}
use Rattle.strip_arrivals.proofs.Casts.{is_none, none_works}
use Rattle.strip_arrivals.proofs.Open.{open_after_going, open_after_leaving}
use Rattle.strip_arrivals.proofs.Along.{can_come, can_go, can_leave}
use Rattle.strip_arrivals.proofs.Runs.{by_kind, may}
use Rattle.strip_arrivals.proofs.Fewer.{AreAwaited, coming_price}
use Rattle.strip_arrivals.proofs.Pending.{awaited_off}
use Rattle.strip_arrivals.proofs.ByPlace.{listed_before}

-- each of a list is worth no more
each_no_more : (f g : ℕ → ℕ) (xs : List ℕ) → All (λ x. f x ≤ g x) xs → sum_by f xs ≤ sum_by g xs
each_no_more f g [] less = omega arith
each_no_more f g (x ∷ xs) less =
    omega (arith, sum_by-cons f x xs, sum_by-cons g x xs, All-head (λ y. f y ≤ g y) x xs less, each_no_more f g xs (All-tail (λ y. f y ≤ g y) x xs less))

-- the first who comes is this one
abbrev FirstComes : ℕ → List Event → Type 0
FirstComes actor [] = ⊥
FirstComes actor (comes other ∷ later) = other ≡ actor
FirstComes actor (leaves other ∷ later) = FirstComes actor later
FirstComes actor (goes other ∷ later) = FirstComes actor later

module _ (film : GroupData) (set group : ℕ) (small : IsSet group) where
  -- what still can happen behind his coming
  abbrev StillThere : StateData → Event → Type 0
  StillThere state (comes actor) = Unit {0}
  StillThere state (leaves actor) = Contains (events group state) (leaves actor)
  StillThere state (goes actor) = Contains (events group state) (goes actor)

  still_there : (state : StateData) (actor : ℕ) (event : Event) → Contains (events group state) event → StillThere (after state (comes actor)) event
  still_there state actor event there = by_kind film set group small state event (StillThere (after state (comes actor))) there
      (λ other expected. tt)
      (λ other stays. can_leave group (after state (comes actor)) other (Contains-members (minus group state.left) other (IsSet-minus group state.left small) stays))
      (λ other here. can_go group (after state (comes actor)) other (listed_before state.here actor other here))

  -- who it is that comes or goes
  abbrev Told : StateData → Event → Type 0
  Told state (comes actor) = has state.coming actor ≡ true
  Told state (leaves actor) = Unit {0}
  Told state (goes actor) = Contains state.here actor

  told : (state : StateData) (event : Event) → Contains (events group state) event → Told state event
  told state event there = by_kind film set group small state event (Told state) there (λ actor expected. expected) (λ actor stays. tt) (λ actor here. here)

  module _ (state : StateData) (actor : ℕ) (awaited : AreAwaited film set state) (expected : has state.coming actor ≡ true) where
    -- nobody who is to come works in these scenes, and so none of the others
    still_fine : (scenes : List ℕ) → list_all (is_without film state.coming) scenes ≡ true → list_all (is_without film (without state.coming actor)) scenes ≡ true
    still_fine scenes fine =
        list_all-from_AllPass (is_without film (without state.coming actor)) scenes
        (All-weaker (λ scene. is_without film state.coming scene ≡ true) (λ scene. is_without film (without state.coming actor) scene ≡ true)
        (λ scene none. is_none film (without state.coming actor) scene (λ i works there.
        none_works film state.coming scene i none works (has_from_without state.coming actor i there).1))
        scenes (AllPass-from_list_all (is_without film state.coming) scenes fine))

    -- they cost no more once he is here
    no_dearer : (scenes : List ℕ) → list_all (is_without film state.coming) scenes ≡ true
        → sum_by (λ scene. slice_index film.days scene * price film set group (after state (comes actor)) scene) scenes
        ≤ sum_by (λ scene. slice_index film.days scene * price film set group state scene) scenes
    no_dearer scenes fine =
        each_no_more _ _ scenes (All-weaker (λ scene. is_without film state.coming scene ≡ true) _ (λ scene none.
        let idle : has (slice_index film.casts scene) actor ≡ false
        = false_from_ne_true (has (slice_index film.casts scene) actor) (λ works. none_works film state.coming scene actor none works expected) in
        mul-le (slice_index film.days scene) (price film set group (after state (comes actor)) scene) (slice_index film.days scene) (price film set group state scene)
        (omega arith) (coming_price film set group state actor scene awaited expected idle))
        scenes (AllPass-from_list_all (is_without film state.coming) scenes fine))

  -- a run behind his coming that is paid no more
  abbrev Sooner : ℕ → List Event → StateData → Type 0
  Sooner actor run state =
      (other : List Event) × IsRun film set group (after state (comes actor)) other
      × (total film set group (after state (comes actor)) other ≤ total film set group state run)

  sooner : (actor : ℕ) (run : List Event) (state : StateData) → AreAwaited film set state → has state.coming actor ≡ true
      → (Contains state.here actor → ⊥) → FirstComes actor run → IsRun film set group state run → Sooner actor run state
  sooner actor [] state awaited expected absent first is_run = absurd first
  sooner actor (comes other ∷ later) state awaited expected absent first (there, rest) = (
    later,
    subst (λ (a : ℕ). IsRun film set group (after state (comes a)) later) first rest,
    subst (λ (a : ℕ). total film set group (after state (comes a)) later ≤ total film set group state (comes other ∷ later)) first (omega arith),
  )
  sooner actor (leaves other ∷ later) state awaited expected absent first (there, rest) =
      let parts = contains_from_filter (is_allowed film set state) (events group state) (leaves other) there in
      let next : AreAwaited film set (after state (leaves other))
      = awaited_off film set state (after state (leaves other)) other refl (λ scene. open_after_leaving film state other scene) parts.1 awaited in
      let found = sooner actor later (after state (leaves other)) next expected absent first rest in
      let fine = still_fine state actor awaited expected (open_scenes film set state other) parts.1 in
      let less = no_dearer state actor awaited expected (open_scenes film set state other) parts.1 in (
        leaves other ∷ found.0,
        (may film set group small (after state (comes actor)) (leaves other) (still_there state actor (leaves other) parts.0) fine, found.1),
        omega (arith, less, found.2),
      )
  sooner actor (goes other ∷ later) state awaited expected absent first (there, rest) =
      let parts = contains_from_filter (is_allowed film set state) (events group state) (goes other) there in
      let stays : ℕ → Bool = λ i. not (eqb i other) in
      let is_here : Contains state.here other = told state (goes other) parts.0 in
      let differ : eqb actor other ≡ false = elim (eqb_tells actor other) [
        | inl is ↦ absurd (absent (subst (Contains state.here) (sym is.1) is_here))
        | inr is_not ↦ is_not.0
      ] in
      let here : filter stays (state.here ++ actor ∷ []) ≡ filter stays state.here ++ actor ∷ []
      = filter-append stays state.here (actor ∷ []) ∙ ap (λ (b : Bool). filter stays state.here ++ cond (not b) (actor ∷ []) []) differ in
      let states : after (after state (goes other)) (comes actor) ≡ after (after state (comes actor)) (goes other)
      = λ i. record { left = state.left; coming = without state.coming actor; here = sym here i; gone = with state.gone other } in
      let next : AreAwaited film set (after state (goes other))
      = awaited_off film set state (after state (goes other)) other refl (λ scene. open_after_going film state other scene) parts.1 awaited in
      let found = sooner actor later (after state (goes other)) next expected (λ again. absent (contains_from_filter stays state.here actor again).0) first rest in
      let fine = still_fine state actor awaited expected (open_scenes film set state other) parts.1 in
      let less = no_dearer state actor awaited expected (open_scenes film set state other) parts.1 in (
        goes other ∷ found.0,
        (
          may film set group small (after state (comes actor)) (goes other) (still_there state actor (goes other) parts.0) fine,
          subst (λ (s : StateData). IsRun film set group s found.0) states found.1,
        ),
        omega (arith, less, found.2, ap (λ (s : StateData). total film set group s found.0) states),
      )

  -- someone comes first, as long as someone is to come
  first_comer : (run : List Event) (state : StateData) (actor : ℕ) → has state.coming actor ≡ true → IsRun film set group state run
      → (one : ℕ) × (has state.coming one ≡ true) × FirstComes one run
  first_comer [] state actor expected over = absurd (empty_has actor (subst (λ (c : ℕ). has c actor ≡ true) over.1 expected))
  first_comer (comes other ∷ later) state actor expected (there, rest) =
      (other, told state (comes other) (contains_from_filter (is_allowed film set state) (events group state) (comes other) there).0, refl)
  first_comer (leaves other ∷ later) state actor expected (there, rest) = first_comer later (after state (leaves other)) actor expected rest
  first_comer (goes other ∷ later) state actor expected (there, rest) = first_comer later (after state (goes other)) actor expected rest

  module _ (state : StateData) (awaited : AreAwaited film set state) (fits : IsSet state.coming)
      (absent : (actor : ℕ) → has state.coming actor ≡ true → Contains state.here actor → ⊥) where
    -- a run that begins with a coming
    begun : (actor least_paid : ℕ) → has state.coming actor ≡ true → IsLeastTotal film set group (after state (comes actor)) least_paid
        → (run : List Event) × IsRun film set group state run × (total film set group state run ≡ least_paid)
    begun actor least_paid expected is =
        (comes actor ∷ is.attained.0, (may film set group small state (comes actor) (can_come group state actor fits expected) refl, is.attained.1), omega (arith, is.attained.2))

    no_less : (actor least_paid : ℕ) (run : List Event) → has state.coming actor ≡ true → IsLeastTotal film set group (after state (comes actor)) least_paid
        → FirstComes actor run → IsRun film set group state run → least_paid ≤ total film set group state run
    no_less actor least_paid run expected is first is_run =
        let found = sooner actor run state awaited expected (absent actor expected) first is_run in
        omega (arith, is.least found.0 found.1, found.2)

    -- where one alone is to come, he may come at once
    pub comes_at_once : (actor least_paid : ℕ) → has state.coming actor ≡ true → ((other : ℕ) → has state.coming other ≡ true → other ≡ actor)
        → IsLeastTotal film set group (after state (comes actor)) least_paid → IsLeastTotal film set group state least_paid
    comes_at_once actor least_paid expected only is = record {
      attained = begun actor least_paid expected is;
      least = λ run is_run.
          let first = first_comer run state actor expected is_run in
          no_less actor least_paid run expected is (subst (λ (a : ℕ). FirstComes a run) (only first.0 first.1) first.2) is_run;
    }

    -- and where two are, one of them
    pub one_comes_at_once : (one other m n : ℕ) → has state.coming one ≡ true → has state.coming other ≡ true
        → ((actor : ℕ) → has state.coming actor ≡ true → (actor ≡ one) ⊎ (actor ≡ other))
        → IsLeastTotal film set group (after state (comes one)) m → IsLeastTotal film set group (after state (comes other)) n
        → IsLeastTotal film set group state (min m n)
    one_comes_at_once one other m n expected expected_too only is is_too = record {
      attained = elim (cases_lt m n) [
        | inl less ↦ (let found = begun one m expected is in (found.0, found.1, omega (arith, found.2, less)))
        | inr more ↦ (let found = begun other n expected_too is_too in (found.0, found.1, omega (arith, found.2, more)))
      ];
      least = λ run is_run.
          let first = first_comer run state one expected is_run in
          elim (only first.0 first.1) [
            | inl is_one ↦ (let low = no_less one m run expected is (subst (λ (a : ℕ). FirstComes a run) is_one first.2) is_run in omega (arith, low))
            | inr is_other ↦ (let low = no_less other n run expected_too is_too (subst (λ (a : ℕ). FirstComes a run) is_other first.2) is_run in omega (arith, low))
          ];
    }
