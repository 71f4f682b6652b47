-- What a pass over the sets of places gives: the least totals of a stage.
use Rattle.std.proofs.Common.{◌≡◌, ℕ, zero, suc, ◌+◌, ◌*◌, ◌^◌, ◌<◌, ◌≤◌, Bool, true, false, not, ◌&&◌, ◌||◌, cond, eqb, List, [], ◌∷◌, Contains, drop, filter, length, slice_index, take, refl, sym, ap, ◌∙◌, subst, inl, inr, arith}
use Rattle.std.proofs.Math.Nat.{mul-le-mul_left, mul_comm}
use Rattle.std.proofs.Math.Pow.{pow_mono}
use Rattle.std.proofs.lemmas.Bool.{eq-eqb, eqb-true, false≢true, false_from_ne_true}
use Rattle.std.proofs.lemmas.List.{drop_all, take_all}
use Rattle.strip_mask.specs.Set.{IsSet, has, meet, minus, numbers_below, size, sum_over, with, without}
use Rattle.strip_mask.proofs.ByMembers.{below_width, empty_from, has-minus, has-with, has-without, has_from_meet, has_from_minus, has_from_without, same_has, empty_has}
use Rattle.strip_mask.proofs.Sums.{sum_below-add, sum_below-scale, sum_below_mono}
use Rattle.strip_mask.proofs.Totals.{sum_over-empty, sum_over_is, sum_over_mono}
use Rattle.strip_group.specs.Group.{GroupData}
use Rattle.strip_group.specs.Places.{actor_at, pick}
use Rattle.strip_arrivals.specs.Arrivals.{Event, IsRun, StateData, actors_of, after, allowed, comes, events, goes, is_allowed, is_open, leaves, mates, total}
use Rattle.strip_arrivals.specs.Company.{IsCompany, IsStage, most_paid, staying}
use Rattle.strip_arrivals.specs.Gross.{IsBest, IsGross, gross_charge, gross_price, least_paid, own_pay, paid_by, weighted}
use Rattle.strip_mask.proofs.Lists.{contains_none}
use Rattle.strip_mask.proofs.Members.{contains_number}
use Rattle.strip_mask.proofs.Least.{least_over_le}
use Rattle.strip_arrivals.proofs.Lists.{contains_filter, contains_from_filter}
use Rattle.strip_arrivals.proofs.Casts.{mates_has}
use Rattle.strip_sets.proofs.Sets.{without_less}
use Rattle.strip_group.proofs.Places.{actor_there, has_from_pick, pick-without}
use Rattle.strip_arrivals.proofs.Open.{open_after_going, open_after_leaving}
use Rattle.strip_arrivals.proofs.Runs.{by_kind, over_or_not}
use Rattle.strip_arrivals.proofs.Gross.{all_tried, charged, comes_free, none_added}
use Rattle.strip_arrivals.proofs.Lowered.{AreLeaving, IsBegun, IsLowered}
use Rattle.strip_arrivals.proofs.Newcomers.{actors_fewer, actors_more}
use Rattle.std.proofs.Math.Bool.{or-true}

-- nobody is waited for by nobody
none_wait : (film : GroupData) (set left : ℕ) → sum_over film.holds (meet left (mates film set 0)) ≡ 0
none_wait film set left = ap (sum_over film.holds) (empty_from (meet left (mates film set 0)) (λ i.
    false_from_ne_true (has (meet left (mates film set 0)) i) (λ there.
    let found = (mates_has film set [] i (has_from_meet left (mates film set 0) i there).1).3 in contains_none found.0 found.1)))
    ∙ sum_over-empty film.holds

-- where nobody has to wait, those who came are paid
least_paid_le : (film : GroupData) (set : ℕ) (state : StateData) (cast : ℕ) → least_paid film set state cast ≤ sum_over film.holds (actors_of state.here)
least_paid_le film set state cast =
    let number : ℕ = length state.here in
    let none : drop number state.here ≡ [] = drop_all number state.here (omega arith) in
    let all : take number state.here ≡ state.here = take_all number state.here (omega arith) in
    let fine : eqb (meet cast (actors_of (drop number state.here))) 0 ≡ true
    = ap (λ (xs : List ℕ). eqb (meet cast (actors_of xs)) 0) none ∙ eq-eqb (meet cast 0) 0 (empty_from (meet cast 0) (λ i.
    false_from_ne_true (has (meet cast 0) i) (λ there. empty_has i (has_from_meet cast 0 i there).1))) in
    let fewest = least_over_le (paid_by film set state cast)
    (filter (λ n. eqb (meet cast (actors_of (drop n state.here))) 0) (numbers_below (suc number))) number
    (contains_filter (λ n. eqb (meet cast (actors_of (drop n state.here))) 0) (numbers_below (suc number)) number (contains_number (suc number) number (omega arith)) fine) in
    let came : sum_over film.holds (minus (actors_of (take number state.here)) cast) ≤ sum_over film.holds (actors_of state.here)
    = subst (λ (xs : List ℕ). sum_over film.holds (minus (actors_of xs) cast) ≤ sum_over film.holds (actors_of state.here)) (sym all)
    (sum_over_mono film.holds (minus (actors_of state.here) cast) (actors_of state.here) (λ i there. (has_from_minus (actors_of state.here) cast i there).0)) in
    let waited : sum_over film.holds (meet state.left (mates film set (actors_of (drop number state.here)))) ≡ 0
    = ap (λ (xs : List ℕ). sum_over film.holds (meet state.left (mates film set (actors_of xs)))) none ∙ none_wait film set state.left in
    omega (arith, fewest, came, waited)

-- a scene that is paid for, or still open
pay_once : (there unpaid works : Bool) (gross most : ℕ) → (unpaid ≡ true → gross ≤ most)
    → cond {A = ℕ} (there && (unpaid && works)) gross 0 + cond {A = ℕ} (there && (unpaid && not works)) most 0 ≤ cond {A = ℕ} (there && unpaid) most 0
pay_once false unpaid works gross most low = omega arith
pay_once true false works gross most low = omega arith
pay_once true true true gross most low = omega (arith, low refl)
pay_once true true false gross most low = omega arith

module _ (film : GroupData) (set group newcomers : ℕ) (small : IsSet group) where
  -- who is to come or here is a newcomer
  pub record AreNewcomers (state : StateData) : Type 0 where
    pub to_come : (actor : ℕ) → has state.coming actor ≡ true → has newcomers actor ≡ true
    pub came : (actor : ℕ) → has (actors_of state.here) actor ≡ true → has newcomers actor ≡ true

  -- and stays one
  newcomers_stay : (state : StateData) (event : Event) → AreNewcomers state → Contains (events group state) event → AreNewcomers (after state event)
  newcomers_stay state event are there = by_kind film set group small state event (λ e. AreNewcomers (after state e)) there
      (λ actor expected. record {
        to_come = λ other still. are.to_come other (has_from_without state.coming actor other still).1;
        came = λ other is_here. either (eqb actor other) (has (actors_of state.here) other) (has newcomers other)
            (sym (actors_more state.here actor other) ∙ is_here)
            (λ same. subst (λ (i : ℕ). has newcomers i ≡ true) (eqb-true actor other same) (are.to_come actor expected)) (are.came other);
      })
      (λ actor stays. record { to_come = are.to_come; came = are.came })
      (λ actor is_here. record {
        to_come = are.to_come;
        came = λ other still. are.came other (second (eqb actor other) (has (actors_of state.here) other) (sym (actors_fewer state.here actor other) ∙ still));
      })
    where
      either : (a b n : Bool) → (a || b) ≡ true → (a ≡ true → n ≡ true) → (b ≡ true → n ≡ true) → n ≡ true
      either true b n is one other = one refl
      either false b n is one other = other is

      second : (a b : Bool) → (not a && b) ≡ true → b ≡ true
      second true b is = absurd (false≢true is)
      second false b is = is

  -- what all of them get for a day
  abbrev pub all_holds : ℕ
  all_holds = sum_over film.holds group + sum_over film.holds newcomers

  -- a day's price is no more
  price_low : (state : StateData) (cast : ℕ) → AreNewcomers state → gross_price film set group state cast ≤ all_holds
  price_low state cast are =
      let stay = sum_over_mono film.holds (minus group state.left) group (λ i there. (has_from_minus group state.left i there).0) in
      let here = sum_over_mono film.holds (actors_of state.here) newcomers are.came in
      omega (arith, least_paid_le film set state cast, stay, here)

  -- what is paid at most for the scenes that are open
  abbrev pub still_paid : StateData → ℕ
  still_paid state = weighted film (λ scene. has set scene && is_open film state scene) (λ scene. all_holds)

  -- one who works in these scenes is off
  off_low : (state later : StateData) (actor : ℕ) → AreNewcomers state
      → ((scene : ℕ) → is_open film later scene ≡ (is_open film state scene && not (has (slice_index film.casts scene) actor)))
      → weighted film (λ scene. has set scene && (is_open film state scene && has (slice_index film.casts scene) actor)) (λ scene. gross_price film set group state (slice_index film.casts scene))
      + still_paid later ≤ still_paid state
  off_low state later actor are stays =
      let days : ℕ → ℕ = slice_index film.days in
      let gross : ℕ → ℕ = λ scene. cond {A = ℕ} (has set scene && (is_open film state scene && has (slice_index film.casts scene) actor))
      (days scene * gross_price film set group state (slice_index film.casts scene)) 0 in
      let kept : ℕ → ℕ = λ scene. cond {A = ℕ} (has set scene && is_open film later scene) (days scene * all_holds) 0 in
      let most : ℕ → ℕ = λ scene. cond {A = ℕ} (has set scene && is_open film state scene) (days scene * all_holds) 0 in
      let each = sum_below_mono 64 (λ scene. gross scene + kept scene) most (λ scene _.
      subst (λ b. gross scene + cond {A = ℕ} (has set scene && b) (days scene * all_holds) 0 ≤ most scene) (sym (stays scene))
      (pay_once (has set scene) (is_open film state scene) (has (slice_index film.casts scene) actor) (days scene * gross_price film set group state (slice_index film.casts scene)) (days scene * all_holds)
      (λ _. mul-le-mul_left (days scene) (price_low state (slice_index film.casts scene) are)))) in
      omega (arith, each, sum_below-add 64 gross kept)

  -- an event takes no more than the scenes that it closes may cost
  event_low : (state : StateData) (event : Event) → AreNewcomers state → gross_charge film set group state event + still_paid (after state event) ≤ still_paid state
  event_low state (comes actor) are = omega (arith, comes_free film set group state actor)
  event_low state (leaves actor) are = off_low state (after state (leaves actor)) actor are (open_after_leaving film state actor)
  event_low state (goes actor) are = off_low state (after state (goes actor)) actor are (open_after_going film state actor)

  -- along a run each scene is paid for once
  run_low : (state : StateData) (run : List Event) → AreNewcomers state → IsRun film set group state run
      → total film set group state run + own_pay film set group state ≤ still_paid state
  run_low state [] are over = omega (arith, none_added film set group state over)
  run_low state (event ∷ run) are (first, rest) =
      let there = (contains_from_filter (is_allowed film set state) (events group state) event first).0 in
      let later = run_low (after state event) run (newcomers_stay state event are there) rest in
      omega (arith, charged film set group state event, event_low state event are, later)

  -- so a least total is no more than what the open scenes may cost
  gross_low : (state : StateData) (gross : ℕ) → AreNewcomers state → IsGross film set group state gross → gross ≤ still_paid state
  gross_low state gross are is =
      let way = is.is_least.attained in
      omega (arith, is.added, way.2, run_low state way.0 are way.1)

  -- all scenes of the set at the most
  still_most : (state : StateData) → still_paid state ≤ most_paid film set group newcomers
  still_most state =
      let most : ℕ → ℕ = λ scene. cond {A = ℕ} (has set scene) (slice_index film.days scene) 0 in
      let each = sum_below_mono 64 (λ scene. cond {A = ℕ} (has set scene && is_open film state scene) (slice_index film.days scene * all_holds) 0) (λ scene. all_holds * most scene)
      (λ scene _. by_test (has set scene) (is_open film state scene) (slice_index film.days scene) all_holds) in
      let whole : all_holds * sum_over film.days set ≡ sum_over film.days set * all_holds = mul_comm all_holds (sum_over film.days set) in
      omega (arith, each, sum_below-scale 64 all_holds most, ap (λ (n : ℕ). all_holds * n) (sum_over_is film.days set), whole)
    where
      by_test : (there unpaid : Bool) (days rate : ℕ) → cond {A = ℕ} (there && unpaid) (days * rate) 0 ≤ rate * cond {A = ℕ} there days 0
      by_test true true days rate = omega arith
      by_test true false days rate = omega arith
      by_test false unpaid days rate = omega arith

module _ (film : GroupData) (set group newcomers never : ℕ) (known : IsCompany film set group newcomers) (enough : most_paid film set group newcomers < never)
    (coming : ℕ) (here : List ℕ) (gone : ℕ) (stage : IsStage newcomers coming here gone) where
  -- who is to come or here
  all_newcomers : (places : ℕ) → AreNewcomers film set group newcomers known.small (staying group coming here gone places)
  all_newcomers places = record {
    to_come = λ actor expected. stage.whole actor ∙ ap (λ b. b || (has (actors_of here) actor || has gone actor)) expected;
    came = λ actor is_here. stage.whole actor ∙ ap (λ b. has coming actor || (b || has gone actor)) is_here ∙ or-true (has coming actor);
  }

  -- a least total is no more than all of them are paid on all days
  pub total_low : (places total : ℕ) → IsGross film set group (staying group coming here gone places) total → total ≤ most_paid film set group newcomers
  total_low places total gross =
      let state : StateData = staying group coming here gone places in
      omega (arith, gross_low film set group newcomers known.small state total (all_newcomers places) gross, still_most film set group newcomers known.small state)

  -- one place less is one who left
  leaves_one : (places place : ℕ) → place < size group
      → after (staying group coming here gone places) (leaves (actor_at group place)) ≡ staying group coming here gone (without places place)
  leaves_one places place within =
      ap (λ (left : ℕ). record { left = left; coming = coming; here = here; gone = gone })
      (same_has (with (minus group (pick group places)) (actor_at group place)) (minus group (pick group (without places place))) (λ i.
      has-with (minus group (pick group places)) (actor_at group place) i ∙ ap (λ b. eqb (actor_at group place) i || b) (has-minus group (pick group places) i)
      ∙ one_off (eqb (actor_at group place) i) (has group i) (has (pick group places) i)
      (λ same. ap (has group) (sym (eqb-true (actor_at group place) i same)) ∙ actor_there group place within)
      ∙ sym (has-minus group (pick group (without places place)) i
      ∙ ap (λ b. has group i && not b) (ap (λ (s : ℕ). has s i) (pick-without group places place within) ∙ has-without (pick group places) (actor_at group place) i))))
    where
      one_off : (is g p : Bool) → (is ≡ true → g ≡ true) → (is || (g && not p)) ≡ (g && not (not is && p))
      one_off true true p there = refl
      one_off true false p there = sym (there refl)
      one_off false true p there = refl
      one_off false false p there = refl

  -- what is the least so far is less than never
  best_low : (tried : Event → Type 0) (state : StateData) (least : ℕ) → AreNewcomers film set group newcomers known.small state → IsSet state.coming
      → IsBest film set group never state tried least → ((event : Event) → tried event) → least < never
  best_low tried state least are fits best all = elim (over_or_not film set group known.small state fits) [
    | inl over ↦ (let none = best.over over in omega (arith, none, enough))
    | inr some ↦ (
        let found = best.no_more some.0 some.1 (all some.0) in
        let there = (contains_from_filter (is_allowed film set state) (events group state) some.0 some.1).0 in
        let later = gross_low film set group newcomers known.small (after state some.0) found.0 (newcomers_stay film set group newcomers known.small state some.0 are there) found.1 in
        omega (arith, found.2, later, event_low film set group newcomers known.small state some.0 are, still_most film set group newcomers known.small state, enough))
  ]

  module _ (count : ℕ) (cost : ℕ → ℕ → ℕ) (first least : ℕ → ℕ) (fits : size group ≤ count) (passes : IsLowered count cost first least)
      (begun : IsBegun film set group never coming here gone first) (leaving : AreLeaving film set group coming here gone cost) where
    -- there is room for the places of the group
    within_count : (places : ℕ) → places < 2 ^ size group → places < 2 ^ count
    within_count places lt = omega (arith, lt, pow_mono {i = size group} {j = count} fits)

    -- of one place less
    fewer : (places place : ℕ) → places < 2 ^ size group → IsGross film set group (staying group coming here gone (without places place)) (least (without places place))
        → has places place ≡ true → IsGross film set group (after (staying group coming here gone places) (leaves (actor_at group place))) (least (without places place))
    fewer places place lt is there = subst (λ (s : StateData). IsGross film set group s (least (without places place)))
        (sym (leaves_one places place (below_width places (size group) place lt there))) is

    -- the least by whatever happens first
    least_best : (places : ℕ) → places < 2 ^ size group
        → ((place : ℕ) → has places place ≡ true → IsGross film set group (staying group coming here gone (without places place)) (least (without places place)))
        → IsBest film set group never (staying group coming here gone places) (λ _. Unit {0}) (least places)
    least_best places lt lower =
        let state : StateData = staying group coming here gone places in
        let no_more_than : least places ≤ first places = passes.kept places (within_count places lt) in
        let best = begun places lt in
        record {
          over = λ over. (let none = best.over over in omega (arith, none, no_more_than));
          no_more = λ event may _. by_kind film set group known.small state event
              (λ e. Contains (allowed film set group state) e → (later : ℕ) × IsGross film set group (after state e) later × (least places ≤ gross_charge film set group state e + later))
              (contains_from_filter (is_allowed film set state) (events group state) event may).0
              (λ actor _ allow. (let found = best.no_more (comes actor) allow (actor, inl refl) in (found.0, found.1, omega (arith, found.2, no_more_than))))
              (λ actor stays allow. by_leaving actor (picked actor stays) allow)
              (λ actor _ allow. (let found = best.no_more (goes actor) allow (actor, inr refl) in (found.0, found.1, omega (arith, found.2, no_more_than))))
              may;
          attained = elim (passes.attained places (within_count places lt)) [
            | inl same ↦ elim best.attained [
              | inl top ↦ inl (omega (arith, same, top))
              | inr rest ↦ elim rest [
                | inl over ↦ inr (inl over)
                | inr by ↦ inr (inr (by.0, by.1, (by.2.0, by.2.1, same ∙ by.2.2)))
              ]
            ]
            | inr by ↦ (
                let one = leaving places by.0 lt by.1 in
                inr (inr (
                  leaves (actor_at group by.0),
                  one.may,
                  (
                    least (without places by.0),
                    fewer places by.0 lt (lower by.0 by.1) by.1,
                    omega (arith, by.2, one.charged),
                  ),
                )))
          ];
        }
      where
        picked : (actor : ℕ) → has (minus group (minus group (pick group places))) actor ≡ true → has (pick group places) actor ≡ true
        picked actor stays = twice (has group actor) (has (pick group places) actor) (sym (ap (λ b. has group actor && not b) (has-minus group (pick group places) actor))
            ∙ sym (has-minus group (minus group (pick group places)) actor) ∙ stays)
          where
            twice : (g p : Bool) → (g && not (g && not p)) ≡ true → p ≡ true
            twice true true is = refl
            twice true false is = is
            twice false p is = absurd (false≢true is)

        by_leaving : (actor : ℕ) → has (pick group places) actor ≡ true → Contains (allowed film set group (staying group coming here gone places)) (leaves actor)
            → (later : ℕ) × IsGross film set group (after (staying group coming here gone places) (leaves actor)) later
            × (least places ≤ gross_charge film set group (staying group coming here gone places) (leaves actor) + later)
        by_leaving actor there allow =
            let found = has_from_pick group places actor there in
            subst (λ (i : ℕ). Contains (allowed film set group (staying group coming here gone places)) (leaves i)
            → (later : ℕ) × IsGross film set group (after (staying group coming here gone places) (leaves i)) later
            × (least places ≤ gross_charge film set group (staying group coming here gone places) (leaves i) + later)) found.3
            (λ may. let one = leaving places found.0 lt found.2 in (
              least (without places found.0),
              fewer places found.0 lt (lower found.0 found.2) found.2,
              omega (arith, passes.lower places found.0 (within_count places lt) found.2, one.charged),
            )) allow

    -- the least totals of all sets of places below a number
    below : (n places : ℕ) → places < n → places < 2 ^ size group → IsGross film set group (staying group coming here gone places) (least places)
    below zero places none lt = absurd (omega (arith, none))
    below (suc n) places fewer_than lt =
        let state : StateData = staying group coming here gone places in
        let best : IsBest film set group never state (λ _. Unit {0}) (least places)
        = least_best places lt (λ place there. let less = without_less places place there in below n (without places place) (omega (arith, less, fewer_than)) (omega (arith, less, lt))) in
        all_tried film set group never (λ _. Unit {0}) state (least places) best (λ event there. tt)
        (best_low (λ _. Unit {0}) state (least places) (all_newcomers places) stage.small best (λ event. tt))

  -- what a pass gives are the least totals
  pub row_least : (count : ℕ) (cost : ℕ → ℕ → ℕ) (first least : ℕ → ℕ) → size group ≤ count → IsLowered count cost first least
      → IsBegun film set group never coming here gone first → AreLeaving film set group coming here gone cost
      → (places : ℕ) → places < 2 ^ size group → IsGross film set group (staying group coming here gone places) (least places)
  row_least count cost first least fits passes begun leaving places lt =
      below count cost first least fits passes begun leaving (places + 1) places (omega arith) lt
