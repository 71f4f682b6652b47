-- The extra of a group is what it is paid for waiting through all days of others, but for what it saves at most.
use Rattle.std.proofs.Common.{◌≡◌, ℕ, zero, suc, ◌+◌, ◌-◌, ◌*◌, ◌^◌, ◌<◌, ◌≤◌, Bool, true, not, ◌&&◌, cond}
use Rattle.std.proofs.Common.{eqb, List, [], ◌∷◌, filter, length, slice_index, sum_by, refl, sym, ap, ◌∙◌, subst, inl, inr, arith}
use Rattle.std.proofs.lemmas.Bool.{cases_lt, false≢true, and_from, and_parts, false_from_ne_true, cases_Bool}
use Rattle.std.proofs.lemmas.Nat.Bits.{bit_at_ones}
use Rattle.strip_mask.specs.Set.{IsSet, LiesBelow, full, has, meet, members, numbers_below, size, sum_over, with, without}
use Rattle.strip_mask.specs.Sums.{sum_below}
use Rattle.strip_mask.proofs.Bits.{has_from_bit}
use Rattle.strip_mask.proofs.ByMembers.{below_64, below_width, has-empty, has-meet, has-with_same, has-without_other}
use Rattle.strip_mask.proofs.ByMembers.{has-without_same, has_from_meet, has_from_with, has_from_without, same_has, some_member}
use Rattle.strip_mask.proofs.Below.{has_full, is_set_below}
use Rattle.strip_mask.proofs.Members.{Contains-members, has_from_members, members_is}
use Rattle.strip_mask.proofs.Sizes.{size-without, size-empty, empty_from_size}
use Rattle.strip_mask.proofs.Sums.{sum_below-ext, sum_below-none, sum_below-point}
use Rattle.strip_mask.specs.Least.{least_over}
use Rattle.strip_group.specs.Group.{GroupData, waited_days, extra_by_last, group_extra, is_waited}
use Rattle.strip_group.specs.Places.{IsTable, actor_at, pick}
use Rattle.strip_group.specs.Saved.{IsSavedMost, Saves, left_by}
use Rattle.strip_group.proofs.Left.{has_from_left, has_left}
use Rattle.strip_mask.proofs.Least.{least_over_attained, least_over_le}
use Rattle.strip_mask.proofs.Agree.{same_test}
use Rattle.strip_sets.proofs.Sets.{one_small, without_less, full_small}
use Rattle.strip_group.proofs.Places.{actor_there, has_from_pick, has_pick, pick-one, pick-without, place_of}
use Rattle.strip_group.proofs.Waits.{days_of, days_split, met, unmet, waits}

-- ---- a sum over a list's numbers that pass a test

filtered : (p q r : ℕ → Bool) (xs : List ℕ) → ((x : ℕ) → r x ≡ (q x && p x)) → filter p (filter q xs) ≡ filter r xs
filtered p q r [] both = refl
filtered p q r (x ∷ xs) both = elim (cases_Bool (q x)) [
  | inl passes ↦ ap (λ (b : Bool). filter p (cond {A = List ℕ} b (x ∷ filter q xs) (filter q xs))) passes ∙ elim (cases_Bool (p x)) [
    | inl also ↦ ap (λ (b : Bool). cond {A = List ℕ} b (x ∷ filter p (filter q xs)) (filter p (filter q xs))) also ∙ ap (λ (ys : List ℕ). x ∷ ys) (filtered p q r xs both)
        ∙ sym (ap (λ (b : Bool). cond {A = List ℕ} b (x ∷ filter r xs) (filter r xs)) (both x ∙ ap (λ (b : Bool). b && p x) passes ∙ ap (λ (b : Bool). true && b) also))
    | inr fails ↦ ap (λ (b : Bool). cond {A = List ℕ} b (x ∷ filter p (filter q xs)) (filter p (filter q xs))) fails ∙ filtered p q r xs both
        ∙ sym (ap (λ (b : Bool). cond {A = List ℕ} b (x ∷ filter r xs) (filter r xs)) (both x ∙ ap (λ (b : Bool). b && p x) passes ∙ ap (λ (b : Bool). true && b) fails))
  ]
  | inr fails ↦ ap (λ (b : Bool). filter p (cond {A = List ℕ} b (x ∷ filter q xs) (filter q xs))) fails ∙ filtered p q r xs both
      ∙ sym (ap (λ (b : Bool). cond {A = List ℕ} b (x ∷ filter r xs) (filter r xs)) (both x ∙ ap (λ (b : Bool). b && p x) fails))
]

sum_of_part : (days : List ℕ) (test : ℕ → Bool) (scenes part : ℕ) → ((i : ℕ) → has part i ≡ (has scenes i && test i)) → sum_over days part ≡ days_of days test (members scenes)
unfolding sum_over
sum_of_part days test scenes part each = ap (sum_by (slice_index days)) (members_is part ∙ sym (ap (filter test) (members_is scenes) ∙ filtered test (has scenes) (has part)
    (numbers_below 64) each))

-- ---- the extra of the actors at the places of a set

module _ (film : GroupData) (scenes group : ℕ) (stays rates : List ℕ) (small : IsSet group) (few : size group ≤ 6) (lies : LiesBelow (length film.casts) scenes)
    (short : length film.casts ≤ 64)
    (stay : (place scene : ℕ) → place < size group → scene < length film.casts → has (slice_index stays place) scene ≡ not (has (slice_index film.casts scene)
    (actor_at group place)))
    (all_stay : (place : ℕ) → size group ≤ place → place < 6 → slice_index stays place ≡ 2 ^ 64 - 1)
    (rate : (place : ℕ) → place < size group → slice_index rates place ≡ slice_index film.holds (actor_at group place))
    (no_rate : (place : ℕ) → size group ≤ place → place < 6 → slice_index rates place ≡ 0) where
  abbrev left : ℕ → ℕ
  left set = left_by stays 6 set scenes

  -- the days of the scenes that are left by each set of places
  abbrev pub left_days : ℕ → ℕ
  left_days set = sum_over film.days (left_by stays 6 set scenes)

  abbrev free : ℕ → ℕ → Bool
  free actors scene = eqb (meet (slice_index film.casts scene) actors) 0

  -- left are the scenes without anyone there
  left_free : (set i : ℕ) → set < 64 → has (left set) i ≡ (has scenes i && free (pick group set) i)
  left_free set i low = same_test (has (left set) i) (has scenes i && free (pick group set) i)
      (λ there. (let found = has_from_left stays 6 set scenes i there in
      and_from (has scenes i) (free (pick group set) i) found.0 (unmet (slice_index film.casts i) (pick group set) (λ actor works picked. (
      let at = has_from_pick group set actor picked in
      let stayed : has (slice_index stays at.0) i ≡ true = found.1 at.0 (omega (arith, at.1, few)) at.2 in
      let works_there : has (slice_index film.casts i) (actor_at group at.0) ≡ true = ap (has (slice_index film.casts i)) at.3 ∙ works in
      false≢true (sym (stay at.0 i at.1 (lies i found.0) ∙ ap not works_there) ∙ stayed))))))
      (λ both. (let parts = and_parts (has scenes i) (free (pick group set) i) both in
      has_left stays 6 set scenes i parts.0 (λ place lt there. elim (cases_lt place (size group)) [
        | inl real ↦ stay place i real (lies i parts.0) ∙ ap not (false_from_ne_true (has (slice_index film.casts i) (actor_at group place)) (λ works.
            false≢true (sym (met (slice_index film.casts i) (pick group set) (actor_at group place) works (has_pick group set place real there)) ∙ parts.1)))
        | inr past ↦ ap (λ (s : ℕ). has s i) (all_stay place past lt) ∙ has_from_bit (2 ^ 64 - 1) i (bit_at_ones 64 i (omega (arith, lies i parts.0, short)))
      ])))

  days_free : (set : ℕ) → set < 64 → left_days set ≡ days_of film.days (free (pick group set)) (members scenes)
  days_free set low = sum_of_part film.days (free (pick group set)) scenes (left set) (λ i. left_free set i low)

  -- of one place alone
  pub left_one : (place : ℕ) → place < 6 → left_by stays 6 (with 0 place) scenes ≡ meet scenes (slice_index stays place)
  left_one place lt = same_has (left (with 0 place)) (meet scenes (slice_index stays place)) (λ i. same_test (has (left (with 0 place)) i) (has (meet scenes
      (slice_index stays place)) i)
      (λ there. (let found = has_from_left stays 6 (with 0 place) scenes i there in
      has-meet scenes (slice_index stays place) i ∙ and_from (has scenes i) (has (slice_index stays place) i) found.0 (found.1 place lt (has-with_same 0 place))))
      (λ there. (let both = has_from_meet scenes (slice_index stays place) i there in
      has_left stays 6 (with 0 place) scenes i both.0 (λ other below one. elim (has_from_with 0 place other one) [
        | inl is ↦ subst (λ (k : ℕ). has (slice_index stays k) i ≡ true) is both.1
        | inr none ↦ absurd (false≢true (sym (has-empty other) ∙ none))
      ]))))

  -- ---- what a place is paid alone

  abbrev pub cost : ℕ → ℕ
  cost place = slice_index rates place * left_days (with 0 place)

  abbrev costs : ℕ → ℕ
  costs set = sum_below 6 (λ place. cond {A = ℕ} (has set place) (cost place) 0)

  costs_without : (set place : ℕ) → place < 6 → has set place ≡ true → costs (without set place) + cost place ≡ costs set
  costs_without set place lt there =
      let apart = sum_below-point 6 place (λ p. cond {A = ℕ} (has set p) (cost p) 0) (λ p. cond {A = ℕ} (has (without set place) p) (cost p) 0) lt
      (λ p _ other. ap (λ (b : Bool). cond {A = ℕ} b (cost p) 0) (sym (has-without_other set place p other))) in
      let here : cond {A = ℕ} (has set place) (cost place) 0 ≡ cost place = ap (λ (b : Bool). cond {A = ℕ} b (cost place) 0) there in
      let gone : cond {A = ℕ} (has (without set place) place) (cost place) 0 ≡ 0 = ap (λ (b : Bool). cond {A = ℕ} b (cost place) 0) (has-without_same set place) in
      omega (arith, apart, here, gone)

  -- a place past the group's adds nothing
  no_cost : (place : ℕ) → size group ≤ place → place < 6 → (days : ℕ) → slice_index rates place * days ≡ 0
  no_cost place past lt days = ap (λ (r : ℕ). r * days) (no_rate place past lt) ∙ grind arith

  pick_past : (set place : ℕ) → size group ≤ place → pick group (without set place) ≡ pick group set
  pick_past set place past = same_has (pick group (without set place)) (pick group set) (λ i. same_test (has (pick group (without set place)) i) (has (pick group set) i)
      (λ there. (let found = has_from_pick group (without set place) i there in
      subst (λ (k : ℕ). has (pick group set) k ≡ true) found.3 (has_pick group set found.0 found.1 (has_from_without set place found.0 found.2).1)))
      (λ there. (let found = has_from_pick group set i there in
      subst (λ (k : ℕ). has (pick group (without set place)) k ≡ true) found.3
      (has_pick group (without set place) found.0 found.1 (has-without_other set place found.0 (λ same. omega (arith, past, same, found.1)) ∙ found.2)))))

  IsSet-pick : (set : ℕ) → IsSet (pick group set)
  IsSet-pick set = is_set_below 64 (pick group set) (omega arith) (λ i there. (let found = has_from_pick group set i there in
      below_64 group i small (subst (λ (k : ℕ). has group k ≡ true) found.3 (actor_there group found.0 found.1))))

  abbrev extra : ℕ → ℕ
  extra set = group_extra film scenes (pick group set)

  -- who leaves last of the actors there
  abbrev leaving_last : ℕ → ℕ → ℕ → ℕ
  leaving_last n actors last = extra_by_last film scenes n (without actors last) + slice_index film.holds last * waited_days film scenes (without actors last) last

  last_pay : (n set place : ℕ) → set < 64 → place < size group → has set place ≡ true → size (pick group set) ≡ suc n
      → leaving_last n (pick group set) (actor_at group place) + slice_index rates place * left_days set ≡ extra (without set place) + cost place
  last_pay n set place low lt there is =
      let actor : ℕ = actor_at group place in
      let picked : has (pick group set) actor ≡ true = has_pick group set place lt there in
      let fewer : size (without (pick group set) actor) ≡ n = omega (arith, size-without (pick group set) actor (IsSet-pick set) picked, is) in
      let others : extra_by_last film scenes n (without (pick group set) actor) ≡ extra (without set place)
      = ap (λ (k : ℕ). extra_by_last film scenes k (without (pick group set) actor)) (sym fewer) ∙ ap (group_extra film scenes) (sym (pick-without group set place lt)) in
      let alone : left_days (with 0 place) ≡ days_of film.days (free (with 0 actor)) (members scenes)
      = days_free (with 0 place) (one_small 6 place (omega (arith, lt, few))) ∙ ap (λ (s : ℕ). days_of film.days (free s) (members scenes)) (pick-one group place lt) in
      let waited : waited_days film scenes (without (pick group set) actor) actor + days_of film.days (free (pick group set)) (members scenes) ≡ days_of film.days (free
      (with 0 actor)) (members scenes)
      = days_split film.days (is_waited film (without (pick group set) actor) actor) (free (pick group set)) (free (with 0 actor)) (members scenes) (λ scene. waits
      (slice_index film.casts scene) (pick group set) actor picked) in
      let days : waited_days film scenes (without (pick group set) actor) actor + left_days set ≡ left_days (with 0 place) = omega (arith, waited, days_free set low, alone) in
      let pay : slice_index rates place * (waited_days film scenes (without (pick group set) actor) actor + left_days set) ≡ cost place = ap (λ
      (d : ℕ). slice_index rates place * d) days in
      let parts : slice_index rates place * (waited_days film scenes (without (pick group set) actor) actor + left_days set)
      ≡ slice_index rates place * waited_days film scenes (without (pick group set) actor) actor + slice_index rates place * left_days set = grind arith in
      let hold : slice_index film.holds actor * waited_days film scenes (without (pick group set) actor) actor ≡ slice_index rates place * waited_days film scenes (without
      (pick group set) actor) actor
      = ap (λ (r : ℕ). r * waited_days film scenes (without (pick group set) actor) actor) (sym (rate place lt)) in
      omega (arith, others, pay, parts, hold)

  module _ (saved : ℕ → ℕ) (saves : Saves 6 rates left_days (λ _. 0) saved) where
    abbrev AddsUp : ℕ → Type 0
    AddsUp set = saved set + extra set ≡ costs set

    -- where a place past the group's is gone
    past_up : (set place : ℕ) → set < 64 → has set place ≡ true → size group ≤ place → AddsUp (without set place) → saved set ≡ saved
        (without set place) + slice_index rates place * left_days set → AddsUp set
    past_up set place low there past before step =
        let lt : place < 6 = below_width set 6 place low there in
        omega (
          arith,
          before,
          step,
          no_cost place past lt (left_days set),
          no_cost place past lt (left_days (with 0 place)),
          costs_without set place lt there,
          ap
              (group_extra film scenes) (pick_past set place past),
        )

    -- with no one there
    none_up : (set : ℕ) → set < 64 → size (pick group set) ≡ 0 → ((less : ℕ) → less < set → AddsUp less) → AddsUp set
    none_up set low is before =
        let none : extra set ≡ 0 = ap (λ (n : ℕ). extra_by_last film scenes n (pick group set)) is in
        let empty : pick group set ≡ 0 = empty_from_size (pick group set) (IsSet-pick set) is in
        let past : (place : ℕ) → has set place ≡ true → size group ≤ place
        = λ place there. elim (cases_lt place (size group)) [
          | inl real ↦ absurd (false≢true (sym (has-empty (actor_at group place)) ∙ ap (λ (s : ℕ). has s (actor_at group place)) (sym empty) ∙ has_pick group set place real there))
          | inr le ↦ le
        ] in
        elim (saves.attained set low) [
          | inl alone ↦ (
              let nothing : costs set ≡ 0 = sum_below-none 6 (λ place. cond {A = ℕ} (has set place) (cost place) 0) (λ place lt. elim (cases_Bool (has set place)) [
                | inl there ↦ ap (λ (b : Bool). cond {A = ℕ} b (cost place) 0) there ∙ no_cost place (past place there) lt (left_days (with 0 place))
                | inr missing ↦ ap (λ (b : Bool). cond {A = ℕ} b (cost place) 0) missing
              ]) in
              omega (arith, alone, none, nothing))
          | inr step ↦ past_up set step.0 low step.1 (past step.0 step.1) (before (without set step.0) (without_less set step.0 step.1)) step.2
        ]

    -- with some one there
    some_up : (n set : ℕ) → set < 64 → size (pick group set) ≡ suc n → ((less : ℕ) → less < set → AddsUp less) → AddsUp set
    some_up n set low is before =
        let actors : ℕ = pick group set in
        let by_last : extra set ≡ least_over (leaving_last n actors) (members actors) = ap (λ (k : ℕ). extra_by_last film scenes k actors) is in
        let each : (place : ℕ) → place < size group → has set place ≡ true
        → leaving_last n actors (actor_at group place) + (saved (without set place) + slice_index rates place * left_days set) ≡ costs set
        = λ place lt there. omega (
          arith,
          last_pay n set place low lt there is,
          before (without set place) (without_less set place there),
          costs_without set place (omega
              (arith, lt, few)) there,
        ) in
        let le : (place : ℕ) → place < size group → has set place ≡ true → extra set ≤ leaving_last n actors (actor_at group place)
        = λ place lt there. omega (
          arith,
          by_last,
          least_over_le (leaving_last n actors) (members actors) (actor_at group place)
              (Contains-members actors (actor_at group place) (IsSet-pick set) (has_pick group set place lt there)),
        ) in
        let someone = some_member actors (IsSet-pick set) (λ empty. omega (arith, is, ap size empty ∙ size-empty)) in
        let one = has_from_pick group set someone.0 someone.2 in
        let best = least_over_attained (leaving_last n actors) (members actors) someone.0 (Contains-members actors someone.0 (IsSet-pick set) someone.2) in
        let at = has_from_pick group set best.0 (has_from_members actors best.0 best.1) in
        let last : extra set ≡ leaving_last n actors (actor_at group at.0) = by_last ∙ best.2 ∙ ap (leaving_last n actors) (sym at.3) in
        let most : saved (without set at.0) + slice_index rates at.0 * left_days set ≤ saved set = saves.after_least set at.0 low at.2 in
        elim (saves.attained set low) [
          | inl alone ↦ omega (arith, alone, last, most, each at.0 at.1 at.2, le one.0 one.1 one.2, each one.0 one.1 one.2)
          | inr step ↦ elim (cases_lt step.0 (size group)) [
            | inl real ↦ omega (arith, last, most, each at.0 at.1 at.2, step.2, le step.0 real step.1, each step.0 real step.1)
            | inr past ↦ past_up set step.0 low step.1 past (before (without set step.0) (without_less set step.0 step.1)) step.2
          ]
        ]

    either_up : (n set : ℕ) → size (pick group set) ≡ n → set < 64 → ((less : ℕ) → less < set → AddsUp less) → AddsUp set
    either_up zero set is low before = none_up set low is before
    either_up (suc n) set is low before = some_up n set low is before

    adds_up : (m set : ℕ) → set < m → set < 64 → AddsUp set
    adds_up zero set bound low = absurd (omega (arith, bound))
    adds_up (suc m) set bound low = either_up (size (pick group set)) set refl low (λ less lt. adds_up m less (omega (arith, lt, bound)) (omega (arith, lt, low)))

    pick_all : pick group (full 6) ≡ group
    pick_all = same_has (pick group (full 6)) group (λ i. same_test (has (pick group (full 6)) i) (has group i)
        (λ there. (let found = has_from_pick group (full 6) i there in ap (has group) (sym found.3) ∙ actor_there group found.0 found.1))
        (λ there. (let found = place_of group i small there in
        subst (λ (k : ℕ). has (pick group (full 6)) k ≡ true) found.2 (has_pick group (full 6) found.0 found.1 (has_full 6 found.0 (omega (arith, found.1, few)))))))

    -- what all save, and the extra, are what each is paid alone
    pub whole : saved (full 6) + group_extra film scenes group ≡ sum_below 6 (λ place. slice_index rates place * sum_over film.days (meet scenes (slice_index stays place)))
    whole =
        let all : costs (full 6) ≡ sum_below 6 (λ place. slice_index rates place * sum_over film.days (meet scenes (slice_index stays place)))
        = sum_below-ext 6 (λ place. cond {A = ℕ} (has (full 6) place) (cost place) 0) (λ place. slice_index rates place * sum_over film.days (meet scenes
        (slice_index stays place)))
        (λ place lt. ap (λ (b : Bool). cond {A = ℕ} b (cost place) 0) (has_full 6 place lt) ∙ ap (λ (s : ℕ). slice_index rates place * sum_over film.days s) (left_one place lt)) in
        omega (arith, adds_up 64 (full 6) (full_small 6 6 (omega arith)) (full_small 6 6 (omega arith)), ap (group_extra film scenes) pick_all, all)

-- by what a table has, the stays and rates by place
pub paid_and_saved : (casts days holds all_stays stays rates : List ℕ) (scenes group most : ℕ) → IsTable casts all_stays days holds → size group ≤ 6 → LiesBelow
    (length holds) group → LiesBelow (length casts) scenes
    → ((place : ℕ) → place < size group → slice_index stays place ≡ slice_index all_stays (actor_at group place)) → ((place : ℕ) → size group ≤ place → place < 6
    → slice_index stays place ≡ 2 ^ 64 - 1)
    → ((place : ℕ) → place < size group → slice_index rates place ≡ slice_index holds (actor_at group place)) → ((place : ℕ) → size group ≤ place → place < 6
    → slice_index rates place ≡ 0)
    → IsSavedMost rates (λ set. sum_over days (left_by stays 6 set scenes)) most
    → most + group_extra (record { casts = casts; days = days; holds = holds }) scenes group ≡ sum_below 6 (λ place. slice_index rates place * sum_over days (meet scenes
    (slice_index stays place)))
paid_and_saved casts days holds all_stays stays rates scenes group most table few known lies stay all_stay rate no_rate saved =
    let small : IsSet group = is_set_below (length holds) group table.limits.actor_count known in
    ap (λ (m : ℕ). m + group_extra (record { casts = casts; days = days; holds = holds }) scenes group) saved.is
    ∙ whole (record { casts = casts; days = days; holds = holds }) scenes group stays rates small few lies table.limits.scene_count
    (λ place scene lt within. ap (λ (s : ℕ). has s scene) (stay place lt) ∙ table.told.each (actor_at group place) scene (known (actor_at group place)
    (actor_there group place lt)) within)
    all_stay rate no_rate saved.saved saved.saves
