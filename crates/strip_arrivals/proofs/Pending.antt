-- A run without some of the newcomers pays no more: scenes that one of them closed as he went are still open, and their prices don't rise.
use Rattle.std.proofs.Common.{◌≡◌, ℕ, ◌+◌, ◌*◌, ◌<◌, ◌≤◌, Bool, true, false, not, ◌&&◌, ◌||◌, cond, eqb, List, [], ◌∷◌, ◌++◌, Contains, filter, slice_index, sum_by, refl, sym, ap, ◌∙◌, subst, inl, inr, arith, append-nil}
use Rattle.std.specs.List.{list_all}
use Rattle.std.proofs.lemmas.Bool.{cases_Bool, false≢true, and_parts, or_left, or_right, false_from_ne_true, not_from_false, not-true, and_from}
use Rattle.std.proofs.lemmas.Bool.Decides.{eqb_tells}
use Rattle.std.proofs.lemmas.List.Elements.{All-contains, All-contains_itself, All-weaker, filter-append}
use Rattle.std.proofs.lemmas.List.Sums.{AllPass-from_list_all, list_all-from_AllPass}
use Rattle.std.proofs.lemmas.Nat.{mul-le}
use Rattle.strip_mask.specs.Set.{IsSet, has, members, minus, numbers_below, union, with}
use Rattle.strip_mask.specs.Sums.{sum_below}
use Rattle.strip_mask.proofs.Below.{is_set_below}
use Rattle.strip_mask.proofs.ByMembers.{IsSet-minus, IsSet-without, below_64, empty_from, has-empty, has-union, has-with, has-without, has_from_union, has_from_without, empty_has}
use Rattle.strip_mask.proofs.Members.{Contains-members, members_is, contains_number}
use Rattle.strip_mask.proofs.Sums.{sum_below-add, sum_below-none, sum_below_mono}
use Rattle.strip_group.specs.Group.{GroupData}
use Rattle.strip_arrivals.specs.Arrivals.{Event, IsRun, StateData, after, arrivals_value, at_first, comes, events, goes, is_allowed, is_open, is_without, leaves, open_scenes, price, total}
use Rattle.strip_arrivals.proofs.Lists.{contains_filter, contains_from_filter, sum_passing}
use Rattle.strip_arrivals.proofs.Casts.{is_none, none_works}
use Rattle.strip_arrivals.proofs.Open.{open_after_going, open_after_leaving}
use Rattle.strip_arrivals.proofs.Along.{can_come, can_go, can_leave}
use Rattle.strip_arrivals.proofs.Runs.{by_kind, may, value_is_least}
use Rattle.strip_arrivals.proofs.Fewer.{AreAwaited, coming_price, fewer_price, leaving_price}
use Rattle.strip_mask.proofs.Agree.{and_turned, and_implied}
use Rattle.std.proofs.Math.Bool.{and-false}

-- ---- lists and tests

-- two tests, in either order
filter_swap : (p q : ℕ → Bool) (xs : List ℕ) → filter p (filter q xs) ≡ filter q (filter p xs)
filter_swap p q [] = refl
filter_swap p q (x ∷ xs) = by_tests (p x) (q x) refl refl (filter_swap p q xs)
  where
    by_tests : (b c : Bool) → p x ≡ b → q x ≡ c → filter p (filter q xs) ≡ filter q (filter p xs)
        → filter p (cond c (x ∷ filter q xs) (filter q xs)) ≡ filter q (cond b (x ∷ filter p xs) (filter p xs))
    by_tests true true passes also rest =
        ap (λ (b : Bool). cond b (x ∷ filter p (filter q xs)) (filter p (filter q xs))) passes ∙ ap (λ (ys : List ℕ). x ∷ ys) rest
        ∙ sym (ap (λ (b : Bool). cond b (x ∷ filter q (filter p xs)) (filter q (filter p xs))) also)
    by_tests true false passes fails rest = rest ∙ sym (ap (λ (b : Bool). cond b (x ∷ filter q (filter p xs)) (filter q (filter p xs))) fails)
    by_tests false true fails passes rest = ap (λ (b : Bool). cond b (x ∷ filter p (filter q xs)) (filter p (filter q xs))) fails ∙ rest
    by_tests false false fails also rest = rest

-- without one who doesn't pass
filter_absent : (p : ℕ → Bool) (one : ℕ) (xs : List ℕ) → p one ≡ false → filter p (filter (λ i. not (eqb i one)) xs) ≡ filter p xs
filter_absent p one [] fails = refl
filter_absent p one (x ∷ xs) fails = elim (eqb_tells x one) [
  | inl is ↦ ap (λ (b : Bool). filter p (cond (not b) (x ∷ filter (λ i. not (eqb i one)) xs) (filter (λ i. not (eqb i one)) xs))) is.0
      ∙ filter_absent p one xs fails ∙ sym (ap (λ (b : Bool). cond b (x ∷ filter p xs) (filter p xs)) (ap p is.1 ∙ fails))
  | inr is_not ↦ ap (λ (b : Bool). filter p (cond (not b) (x ∷ filter (λ i. not (eqb i one)) xs) (filter (λ i. not (eqb i one)) xs))) is_not.0
      ∙ ap (λ (ys : List ℕ). cond (p x) (x ∷ ys) ys) (filter_absent p one xs fails)
]

and_without : (k same c : Bool) → (same ≡ true → k ≡ false) → (k && c) ≡ (k && (not same && c))
and_without true true c apart = absurd (false≢true (sym (apart refl)))
and_without true false c apart = refl
and_without false same c apart = refl

or_kept : (k same c : Bool) → (same ≡ true → k ≡ true) → (same || (k && c)) ≡ (k && (same || c))
or_kept true same c within = refl
or_kept false true c within = absurd (false≢true (within refl))
or_kept false false c within = refl

or_dropped : (k same c : Bool) → (same ≡ true → k ≡ false) → (k && c) ≡ (k && (same || c))
or_dropped true true c apart = absurd (false≢true (sym (apart refl)))
or_dropped true false c apart = refl
or_dropped false same c apart = refl

where_true : (b : Bool) (m n : ℕ) → (b ≡ true → m ≤ n) → cond {A = ℕ} b m 0 ≤ cond {A = ℕ} b n 0
where_true true m n le = le refl
where_true false m n le = omega arith

-- what is paid where a scene is closed in both of two states, and what is still owed where the second alone has it open
both_close : (there opened also works : Bool) (old new later : ℕ) → (opened ≡ true → also ≡ true) → new ≤ old → (works ≡ false → later ≤ new)
    → cond {A = ℕ} (there && (also && works)) new 0 + cond {A = ℕ} (there && ((also && not works) && not (opened && not works))) later 0
    ≤ cond {A = ℕ} (there && (opened && works)) old 0 + cond {A = ℕ} (there && (also && not opened)) new 0
both_close false opened also works old new later opens less falls = omega arith
both_close true true false works old new later opens less falls = absurd (false≢true (opens refl))
both_close true true true true old new later opens less falls = omega (arith, less)
both_close true true true false old new later opens less falls = omega arith
both_close true false false works old new later opens less falls = omega arith
both_close true false true true old new later opens less falls = omega arith
both_close true false true false old new later opens less falls = omega (arith, falls refl)

-- and where it is closed in the first alone
one_closes : (there opened also works : Bool) (old new : ℕ) → new ≤ old
    → cond {A = ℕ} (there && (also && not (opened && not works))) new 0
    ≤ cond {A = ℕ} (there && (opened && works)) old 0 + cond {A = ℕ} (there && (also && not opened)) new 0
one_closes false opened also works old new less = omega arith
one_closes true opened false works old new less = omega arith
one_closes true true true true old new less = omega (arith, less)
one_closes true true true false old new less = omega arith
one_closes true false true works old new less = omega arith

-- a number of a set below 64 is among its members
among_members : (set i : ℕ) → i < 64 → has set i ≡ true → Contains (members set) i
among_members set i lt there =
    subst (λ (xs : List ℕ). Contains xs i) (sym (members_is set)) (contains_filter (has set) (numbers_below 64) i (contains_number 64 i lt) there)

module _ (film : GroupData) (set : ℕ) where
  -- ---- who is still to come stays awaited

  -- nobody who is still to come works in a scene that is closed
  is_fine : (state : StateData) (actor scene : ℕ) → list_all (is_without film state.coming) (open_scenes film set state actor) ≡ true
      → Contains (members set) scene → is_open film state scene ≡ true → has (slice_index film.casts scene) actor ≡ true
      → is_without film state.coming scene ≡ true
  is_fine state actor scene all of_set opened works =
      All-contains (λ s. is_without film state.coming s ≡ true) (open_scenes film set state actor) scene
      (AllPass-from_list_all (is_without film state.coming) (open_scenes film set state actor) all)
      (contains_filter (λ s. is_open film state s && has (slice_index film.casts s) actor) (members set) scene of_set
      (and_from (is_open film state scene) (has (slice_index film.casts scene) actor) opened works))

  pub awaited_coming : (state : StateData) (actor : ℕ) → AreAwaited film set state → AreAwaited film set (after state (comes actor))
  awaited_coming state actor awaited = λ scene i of_set works there. awaited scene i of_set works (has_from_without state.coming actor i there).1

  pub awaited_off : (state next : StateData) (actor : ℕ) → next.coming ≡ state.coming
      → ((scene : ℕ) → is_open film next scene ≡ (is_open film state scene && not (has (slice_index film.casts scene) actor)))
      → list_all (is_without film state.coming) (open_scenes film set state actor) ≡ true → AreAwaited film set state → AreAwaited film set next
  awaited_off state next actor same still all awaited = λ scene i of_set works there.
      (let expected : has state.coming i ≡ true = subst (λ (c : ℕ). has c i ≡ true) same there in
      let opened : is_open film state scene ≡ true = awaited scene i of_set works expected in
      still scene ∙ and_from (is_open film state scene) (not (has (slice_index film.casts scene) actor)) opened
      (not_from_false (has (slice_index film.casts scene) actor) (false_from_ne_true (has (slice_index film.casts scene) actor) (λ also.
      none_works film state.coming scene i (is_fine state actor scene all of_set opened also) works expected))))

  -- ---- what is still to be paid where fewer have come

  module _ (group : ℕ) where
    abbrev paid_at : StateData → ℕ → ℕ
    paid_at state scene = slice_index film.days scene * price film set group state scene

    -- a scene is open where fewer have come, and in the other state it isn't
    abbrev is_pending : StateData → StateData → ℕ → Bool
    is_pending state fewer scene = has set scene && (is_open film fewer scene && not (is_open film state scene))

    abbrev owed_at : StateData → StateData → ℕ → ℕ
    owed_at state fewer scene = cond {A = ℕ} (is_pending state fewer scene) (paid_at fewer scene) 0

    abbrev owed : StateData → StateData → ℕ
    owed state fewer = sum_below 64 (owed_at state fewer)

    -- what is paid where one leaves or goes
    abbrev closes : StateData → ℕ → ℕ → Bool
    closes state actor scene = is_open film state scene && has (slice_index film.casts scene) actor

    abbrev closed_at : StateData → ℕ → ℕ → ℕ
    closed_at state actor scene = cond {A = ℕ} (has set scene && closes state actor scene) (paid_at state scene) 0

    abbrev paid_for : StateData → ℕ → ℕ
    paid_for state actor = sum_by (paid_at state) (open_scenes film set state actor)

    paid_for_is : (state : StateData) (actor : ℕ) → paid_for state actor ≡ sum_below 64 (closed_at state actor)
    paid_for_is state actor = sum_passing (paid_at state) (closes state actor) set

  module _ (kept : ℕ → Bool) where
    -- ---- states with those newcomers alone who are kept

    -- the same of the group have left, and of the newcomers those who are kept are where they were
    record IsFewer (state fewer : StateData) : Type 0 where
      same_left : fewer.left ≡ state.left
      kept_here : fewer.here ≡ filter kept state.here
      kept_coming : (i : ℕ) → has fewer.coming i ≡ (kept i && has state.coming i)
      kept_gone : (i : ℕ) → has fewer.gone i ≡ (kept i && has state.gone i)
      fits : IsSet fewer.coming

    same_kept : (actor i : ℕ) (b : Bool) → kept actor ≡ b → eqb actor i ≡ true → kept i ≡ b
    same_kept actor i b is same = elim (eqb_tells actor i) [
      | inl equal ↦ subst (λ (k : ℕ). kept k ≡ b) equal.1 is
      | inr other ↦ absurd (false≢true (sym other.0 ∙ same))
    ]

    module _ (state fewer : StateData) (are : IsFewer state fewer) where
      -- the same happens in both
      both_coming : (actor : ℕ) → kept actor ≡ true → IsFewer (after state (comes actor)) (after fewer (comes actor))
      both_coming actor is = record {
        same_left = are.same_left;
        kept_here = ap (λ (xs : List ℕ). xs ++ actor ∷ []) are.kept_here
            ∙ sym (filter-append kept state.here (actor ∷ []) ∙ ap (λ (b : Bool). filter kept state.here ++ cond b (actor ∷ []) []) is);
        kept_coming = λ i. has-without fewer.coming actor i ∙ ap (λ b. not (eqb actor i) && b) (are.kept_coming i)
            ∙ and_turned (not (eqb actor i)) (kept i) (has state.coming i) ∙ ap (λ b. kept i && b) (sym (has-without state.coming actor i));
        kept_gone = are.kept_gone;
        fits = IsSet-without fewer.coming actor are.fits;
      }

      both_leaving : (actor : ℕ) → IsFewer (after state (leaves actor)) (after fewer (leaves actor))
      both_leaving actor = record {
        same_left = ap (λ (l : ℕ). with l actor) are.same_left;
        kept_here = are.kept_here;
        kept_coming = are.kept_coming;
        kept_gone = are.kept_gone;
        fits = are.fits;
      }

      both_going : (actor : ℕ) → kept actor ≡ true → IsFewer (after state (goes actor)) (after fewer (goes actor))
      both_going actor is = record {
        same_left = are.same_left;
        kept_here = ap (filter (λ i. not (eqb i actor))) are.kept_here ∙ filter_swap (λ i. not (eqb i actor)) kept state.here;
        kept_coming = are.kept_coming;
        kept_gone = λ i. has-with fewer.gone actor i ∙ ap (λ b. eqb actor i || b) (are.kept_gone i)
            ∙ or_kept (kept i) (eqb actor i) (has state.gone i) (same_kept actor i true is) ∙ ap (λ b. kept i && b) (sym (has-with state.gone actor i));
        fits = are.fits;
      }

      -- or one who isn't kept comes or goes, in the first alone
      coming_dropped : (actor : ℕ) → kept actor ≡ false → IsFewer (after state (comes actor)) fewer
      coming_dropped actor is_not = record {
        same_left = are.same_left;
        kept_here = are.kept_here ∙ sym (filter-append kept state.here (actor ∷ [])
            ∙ ap (λ (b : Bool). filter kept state.here ++ cond b (actor ∷ []) []) is_not ∙ append-nil (filter kept state.here));
        kept_coming = λ i. are.kept_coming i ∙ and_without (kept i) (eqb actor i) (has state.coming i) (same_kept actor i false is_not)
            ∙ ap (λ b. kept i && b) (sym (has-without state.coming actor i));
        kept_gone = are.kept_gone;
        fits = are.fits;
      }

      going_dropped : (actor : ℕ) → kept actor ≡ false → IsFewer (after state (goes actor)) fewer
      going_dropped actor is_not = record {
        same_left = are.same_left;
        kept_here = are.kept_here ∙ sym (filter_absent kept actor state.here is_not);
        kept_coming = are.kept_coming;
        kept_gone = λ i. are.kept_gone i ∙ or_dropped (kept i) (eqb actor i) (has state.gone i) (same_kept actor i false is_not)
            ∙ ap (λ b. kept i && b) (sym (has-with state.gone actor i));
        fits = are.fits;
      }

      was_coming : (i : ℕ) → has fewer.coming i ≡ true → has state.coming i ≡ true
      was_coming i there = (and_parts (kept i) (has state.coming i) (sym (are.kept_coming i) ∙ there)).1

      -- what is open is open where fewer have come
      opens : (scene : ℕ) → is_open film state scene ≡ true → is_open film fewer scene ≡ true
      opens scene opened = is_none film (union fewer.left fewer.gone) scene (λ i works there.
          none_works film (union state.left state.gone) scene i opened works
          (has-union state.left state.gone i ∙ elim (has_from_union fewer.left fewer.gone i there) [
            | inl left ↦ or_left (has state.left i) (has state.gone i) (subst (λ (l : ℕ). has l i ≡ true) are.same_left left)
            | inr gone ↦ or_right (has state.left i) (has state.gone i) (and_parts (kept i) (has state.gone i) (sym (are.kept_gone i) ∙ gone)).1
          ]))

      -- nobody who is to come works in what one closes
      still_fine : (actor : ℕ) → AreAwaited film set state → list_all (is_without film state.coming) (open_scenes film set state actor) ≡ true
          → list_all (is_without film fewer.coming) (open_scenes film set fewer actor) ≡ true
      still_fine actor awaited all =
          list_all-from_AllPass (is_without film fewer.coming) (open_scenes film set fewer actor)
          (All-weaker (Contains (open_scenes film set fewer actor)) (λ scene. is_without film fewer.coming scene ≡ true) (λ scene there.
          let found = contains_from_filter (λ s. is_open film fewer s && has (slice_index film.casts s) actor) (members set) scene there in
          let both = and_parts (is_open film fewer scene) (has (slice_index film.casts scene) actor) found.1 in
          is_none film fewer.coming scene (λ i works expected.
          let before = was_coming i expected in
          none_works film state.coming scene i (is_fine state actor scene all found.0 (awaited scene i found.0 works before) both.1) works before))
          (open_scenes film set fewer actor) (All-contains_itself (open_scenes film set fewer actor)))

    module _ (group : ℕ) (small : IsSet group) where
      -- a run of the fewer ones, and what it pays
      abbrev HasRun : StateData → StateData → List Event → Type 0
      HasRun state fewer run =
          (other : List Event) × IsRun film set group fewer other
          × (total film set group fewer other ≤ total film set group state run + owed group state fewer)

      times : (days m n : ℕ) → m ≤ n → days * m ≤ days * n
      times days m n le = mul-le days m days n (omega arith) le

      module _ (state fewer : StateData) (are : IsFewer state fewer) where
        no_dearer : (scene : ℕ) → paid_at group fewer scene ≤ paid_at group state scene
        no_dearer scene =
            times (slice_index film.days scene) (price film set group fewer scene) (price film set group state scene)
            (fewer_price film set group state fewer kept scene are.same_left are.kept_here)

        -- both close the scenes of one
        both_closing : (next fewer_next : StateData) (actor : ℕ)
            → ((scene : ℕ) → is_open film next scene ≡ (is_open film state scene && not (has (slice_index film.casts scene) actor)))
            → ((scene : ℕ) → is_open film fewer_next scene ≡ (is_open film fewer scene && not (has (slice_index film.casts scene) actor)))
            → ((scene : ℕ) → has (slice_index film.casts scene) actor ≡ false → price film set group fewer_next scene ≤ price film set group fewer scene)
            → paid_for group fewer actor + owed group next fewer_next ≤ paid_for group state actor + owed group state fewer
        both_closing next fewer_next actor still fewer_still falls =
            let now : ℕ → ℕ = λ scene. closed_at group fewer actor scene + owed_at group next fewer_next scene in
            let before : ℕ → ℕ = λ scene. closed_at group state actor scene + owed_at group state fewer scene in
            let within : sum_below 64 now ≤ sum_below 64 before
            = sum_below_mono 64 now before (λ scene _. rw (fewer_still scene, still scene) (both_close (has set scene) (is_open film state scene)
            (is_open film fewer scene) (has (slice_index film.casts scene) actor) (paid_at group state scene) (paid_at group fewer scene)
            (paid_at group fewer_next scene) (opens state fewer are scene) (no_dearer scene) (λ idle.
            times (slice_index film.days scene) (price film set group fewer_next scene) (price film set group fewer scene) (falls scene idle)))) in
            omega (
              arith,
              within,
              sum_below-add 64 (closed_at group fewer actor) (owed_at group next fewer_next),
              sum_below-add 64 (closed_at group state actor) (owed_at group state fewer),
              paid_for_is group fewer actor,
              paid_for_is group state actor,
            )

        -- one who isn't kept closes his scenes
        one_closing : (next : StateData) (actor : ℕ)
            → ((scene : ℕ) → is_open film next scene ≡ (is_open film state scene && not (has (slice_index film.casts scene) actor)))
            → owed group next fewer ≤ paid_for group state actor + owed group state fewer
        one_closing next actor still =
            let before : ℕ → ℕ = λ scene. closed_at group state actor scene + owed_at group state fewer scene in
            let within : sum_below 64 (owed_at group next fewer) ≤ sum_below 64 before
            = sum_below_mono 64 (owed_at group next fewer) before (λ scene _. rw (still scene) (one_closes (has set scene) (is_open film state scene)
            (is_open film fewer scene) (has (slice_index film.casts scene) actor) (paid_at group state scene) (paid_at group fewer scene) (no_dearer scene))) in
            omega (arith, within, sum_below-add 64 (closed_at group state actor) (owed_at group state fewer), paid_for_is group state actor)

        -- one comes: nobody who is to come works in a scene that is pending
        coming_owes : (actor : ℕ) → AreAwaited film set state → has state.coming actor ≡ true → kept actor ≡ true
            → owed group (after state (comes actor)) (after fewer (comes actor)) ≤ owed group state fewer
        coming_owes actor awaited expected is =
            let next : StateData = after fewer (comes actor) in
            let expected_too : has fewer.coming actor ≡ true = are.kept_coming actor ∙ and_from (kept actor) (has state.coming actor) is expected in
            let awaited_too : AreAwaited film set fewer
            = λ scene i of_set works there. opens state fewer are scene (awaited scene i of_set works (was_coming state fewer are i there)) in
            sum_below_mono 64 (owed_at group (after state (comes actor)) next) (owed_at group state fewer) (λ scene lt.
            where_true (is_pending group state fewer scene) (paid_at group next scene) (paid_at group fewer scene) (λ pending.
            let outer = and_parts (has set scene) (is_open film fewer scene && not (is_open film state scene)) pending in
            let inner = and_parts (is_open film fewer scene) (not (is_open film state scene)) outer.1 in
            let idle : has (slice_index film.casts scene) actor ≡ false
            = false_from_ne_true (has (slice_index film.casts scene) actor) (λ works. false≢true (sym (not-true (is_open film state scene) inner.1)
            ∙ awaited scene actor (among_members set scene lt outer.0) works expected)) in
            times (slice_index film.days scene) (price film set group next scene) (price film set group fewer scene)
            (coming_price film set group fewer actor scene awaited_too expected_too idle)))

      -- ---- runs

      -- whatever the state from which the run goes, fewer have a run
      abbrev Serves : List Event → Type 0
      Serves run = (state fewer : StateData) → AreAwaited film set state → IsFewer state fewer → IsRun film set group state run → HasRun state fewer run

      first_comes : (later : List Event) → Serves later → (state fewer : StateData) → AreAwaited film set state → IsFewer state fewer
          → (actor : ℕ) → has state.coming actor ≡ true → IsRun film set group (after state (comes actor)) later
          → HasRun state fewer (comes actor ∷ later)
      first_comes later serves state fewer awaited are actor expected rest = elim (cases_Bool (kept actor)) [
        | inl is ↦ (
            let found = serves (after state (comes actor)) (after fewer (comes actor)) (awaited_coming state actor awaited)
            (both_coming state fewer are actor is) rest in (
              comes actor ∷ found.0,
              (
                may film set group small fewer (comes actor) (can_come group fewer actor are.fits
                    (are.kept_coming actor ∙ and_from (kept actor) (has state.coming actor) is expected)) refl,
                found.1,
              ),
              omega (arith, found.2, coming_owes state fewer are actor awaited expected is),
            ))
        | inr is_not ↦ (
            let found = serves (after state (comes actor)) fewer (awaited_coming state actor awaited) (coming_dropped state fewer are actor is_not) rest in
            (found.0, found.1, omega (arith, found.2)))
      ]

      first_leaves : (later : List Event) → Serves later → (state fewer : StateData) → AreAwaited film set state → IsFewer state fewer
          → (actor : ℕ) → has (minus group state.left) actor ≡ true → is_allowed film set state (leaves actor) ≡ true
          → IsRun film set group (after state (leaves actor)) later → HasRun state fewer (leaves actor ∷ later)
      first_leaves later serves state fewer awaited are actor stays all rest =
          let found = serves (after state (leaves actor)) (after fewer (leaves actor))
          (awaited_off state (after state (leaves actor)) actor refl (open_after_leaving film state actor) all awaited) (both_leaving state fewer are actor) rest in
          let stays_too : has (minus group fewer.left) actor ≡ true = subst (λ (l : ℕ). has (minus group l) actor ≡ true) (sym are.same_left) stays in (
            leaves actor ∷ found.0,
            (
              may film set group small fewer (leaves actor)
                  (can_leave group fewer actor (Contains-members (minus group fewer.left) actor (IsSet-minus group fewer.left small) stays_too))
                  (still_fine state fewer are actor awaited all),
              found.1,
            ),
            omega (
              arith,
              found.2,
              both_closing state fewer are (after state (leaves actor)) (after fewer (leaves actor)) actor (open_after_leaving film state actor)
                  (open_after_leaving film fewer actor) (λ scene idle. leaving_price film set group fewer actor scene stays_too idle),
            ),
          )

      first_goes : (later : List Event) → Serves later → (state fewer : StateData) → AreAwaited film set state → IsFewer state fewer
          → (actor : ℕ) → Contains state.here actor → is_allowed film set state (goes actor) ≡ true
          → IsRun film set group (after state (goes actor)) later → HasRun state fewer (goes actor ∷ later)
      first_goes later serves state fewer awaited are actor here all rest =
          let awaited_next = awaited_off state (after state (goes actor)) actor refl (open_after_going film state actor) all awaited in
          elim (cases_Bool (kept actor)) [
            | inl is ↦ (
                let found = serves (after state (goes actor)) (after fewer (goes actor)) awaited_next (both_going state fewer are actor is) rest in
                let here_too : Contains fewer.here actor
                = subst (λ (xs : List ℕ). Contains xs actor) (sym are.kept_here) (contains_filter kept state.here actor here is) in (
                  goes actor ∷ found.0,
                  (may film set group small fewer (goes actor) (can_go group fewer actor here_too) (still_fine state fewer are actor awaited all), found.1),
                  omega (
                    arith,
                    found.2,
                    both_closing state fewer are (after state (goes actor)) (after fewer (goes actor)) actor (open_after_going film state actor)
                        (open_after_going film fewer actor)
                        (λ scene idle. fewer_price film set group fewer (after fewer (goes actor)) (λ i. not (eqb i actor)) scene refl refl),
                  ),
                ))
            | inr is_not ↦ (
                let found = serves (after state (goes actor)) fewer awaited_next (going_dropped state fewer are actor is_not) rest in
                (found.0, found.1, omega (arith, found.2, one_closing state fewer are (after state (goes actor)) actor (open_after_going film state actor))))
          ]

      without_them : (run : List Event) → Serves run
      without_them [] state fewer awaited are over = (
        [],
        (
          subst (λ (l : ℕ). minus group l ≡ 0) (sym are.same_left) over.0,
          empty_from fewer.coming (λ i. false_from_ne_true (has fewer.coming i) (λ there.
              empty_has i (subst (λ (c : ℕ). has c i ≡ true) over.1 (was_coming state fewer are i there)))),
          are.kept_here ∙ ap (filter kept) over.2,
        ),
        omega arith,
      )
      without_them (event ∷ later) state fewer awaited are (first, rest) =
          let found = contains_from_filter (is_allowed film set state) (events group state) event first in
          by_kind film set group small state event
          (λ e. is_allowed film set state e ≡ true → IsRun film set group (after state e) later → HasRun state fewer (e ∷ later)) found.0
          (λ actor expected fine run. first_comes later (without_them later) state fewer awaited are actor expected run)
          (λ actor stays fine run. first_leaves later (without_them later) state fewer awaited are actor stays fine run)
          (λ actor here fine run. first_goes later (without_them later) state fewer awaited are actor here fine run)
          found.1 rest

-- the value where some newcomers are left out
pub wait_no_more : (film : GroupData) (set group : ℕ) → IsSet group → (newcomers fewer : ℕ) → IsSet newcomers
    → ((actor : ℕ) → has fewer actor ≡ true → has newcomers actor ≡ true)
    → arrivals_value film set group fewer ≤ arrivals_value film set group newcomers
wait_no_more film set group small newcomers fewer fits within =
    let fits_too : IsSet fewer = is_set_below 64 fewer (omega arith) (λ i there. below_64 newcomers i fits (within i there)) in
    let value = value_is_least film set group small newcomers fits in
    let run = value.attained in
    let other = without_them film set (has fewer) group small run.0 (at_first newcomers) (at_first fewer)
    (λ scene i of_set works there. all_open scene) (record {
      same_left = refl;
      kept_here = refl;
      kept_coming = λ i. and_implied (has fewer i) (has newcomers i) (within i);
      kept_gone = λ i. has-empty i ∙ sym (ap (λ b. has fewer i && b) (has-empty i) ∙ and-false (has fewer i));
      fits = fits_too;
    }) run.1 in
    let nothing : owed film set group (at_first newcomers) (at_first fewer) ≡ 0
    = sum_below-none 64 (owed_at film set group (at_first newcomers) (at_first fewer))
    (λ scene _. no_scene (has set scene) (is_open film (at_first newcomers) scene) (paid_at film set group (at_first fewer) scene)) in
    omega (arith, other.2, nothing, run.2, (value_is_least film set group small fewer fits_too).least other.0 other.1)
  where
    no_scene : (there opened : Bool) (pay : ℕ) → cond {A = ℕ} (there && (opened && not opened)) pay 0 ≡ 0
    no_scene true true pay = refl
    no_scene true false pay = refl
    no_scene false opened pay = refl

    all_open : (scene : ℕ) → is_open film (at_first newcomers) scene ≡ true
    all_open scene = is_none film (union 0 0) scene (λ i works there. elim (has_from_union 0 0 i there) [
      | inl one ↦ empty_has i one
      | inr other ↦ empty_has i other
    ])
