-- What groups without a common actor are paid for waiting is within every tail.
use Rattle.std.proofs.Common.{◌≡◌, ℕ, suc, eqb, ◌+◌, ◌*◌, ◌≤◌, true, not, List, [], ◌∷◌, length, All, get_or, sum_by, slice_index, refl, sym, ap, ◌∙◌, arith}
use Rattle.std.specs.List.{AllPairs}
use Rattle.std.proofs.Math.Nat.{mul-le-mul_left}
use Rattle.std.proofs.lemmas.Bool.{and_right, and_from, false_from_ne_true}
use Rattle.std.proofs.lemmas.List.Sums.{sum_by-cons}
use Rattle.std.proofs.lemmas.List.Elements.{All-head, All-tail, All-weaker}
use Rattle.strip_mask.specs.Set.{IsSet, has, meet, minus, without, sum_over}
use Rattle.strip_mask.proofs.ByMembers.{has-minus, has-meet, has-without}
use Rattle.strip_mask.proofs.Below.{is_set_below, LiesBelow-without}
use Rattle.strip_mask.proofs.Members.{members-empty}
use Rattle.strip_mask.proofs.Totals.{sum_over-minus, sum_over_mono, sum_members-without}
use Rattle.strip_model.specs.Film.{FilmData}
use Rattle.strip_film.specs.Bounds.{plain_bound}
use Rattle.strip_film.specs.Film.{IsFilm, LiesIn}
use Rattle.strip_film.specs.Shoot.{on_location}
use Rattle.strip_film.specs.Finish.{steps_cost}
use Rattle.strip_film.specs.Located.{WorksOutside}
use Rattle.strip_film.proofs.Casts.{cast_has}
use Rattle.strip_film.proofs.Located.{location_by_scenes, location_lies}
use Rattle.strip_film.proofs.Lists.{AllOnce}
use Rattle.strip_group.specs.Group.{group_extra}
use Rattle.strip_bound.specs.Bounds.{group_data, groups_extra}
use Rattle.strip_bound.specs.Waiting.{AreGroups, wait_pay}
use Rattle.strip_bound.proofs.Waits.{idle_of, has_from_idle}
use Rattle.strip_bound.proofs.Least.{extra_is_least}

-- no actor is in both
abbrev pub Apart : ℕ → ℕ → Type 0
Apart a b = (actor : ℕ) → has a actor ≡ true → ¬ (has b actor ≡ true)

pairs_head : (group : ℕ) (groups : List ℕ) → AllPairs Apart (group ∷ groups) → All (Apart group) groups
pairs_head group groups apart k d within = apart 0 (suc k) d (omega arith) (omega (arith, within))

pairs_tail : (group : ℕ) (groups : List ℕ) → AllPairs Apart (group ∷ groups) → AllPairs Apart groups
pairs_tail group groups apart i j d less within = apart (suc i) (suc j) d (omega (arith, less)) (omega (arith, within))

-- ---- sums over a list of groups

sum_by-none : (groups : List ℕ) → sum_by (λ _. 0) groups ≡ 0
sum_by-none [] = refl
sum_by-none (g ∷ groups) = omega (arith, sum_by-cons (λ _. 0) g groups, sum_by-none groups)

sum_by-scale_add : (c : ℕ) (f h : ℕ → ℕ) (groups : List ℕ) → sum_by (λ g. c * f g + h g) groups ≡ c * sum_by f groups + sum_by h groups
sum_by-scale_add c f h [] = grind arith
sum_by-scale_add c f h (g ∷ groups) =
    sum_by-cons (λ x. c * f x + h x) g groups
    ∙ ap (λ (n : ℕ). c * f g + h g + n) (sum_by-scale_add c f h groups)
    ∙ regrouped c (f g) (h g) (sum_by f groups) (sum_by h groups)
    ∙ sym (ap (λ (n : ℕ). c * n + sum_by h (g ∷ groups)) (sum_by-cons f g groups) ∙ ap (λ (n : ℕ). c * (f g + sum_by f groups) + n) (sum_by-cons h g groups))
  where
    regrouped : (c a b x y : ℕ) → c * a + b + (c * x + y) ≡ c * (a + x) + (b + y)
    regrouped c a b x y = grind arith

sum_by_mono_at : (f h : ℕ → ℕ) (groups : List ℕ) → All (λ g. f g ≤ h g) groups → sum_by f groups ≤ sum_by h groups
sum_by_mono_at f h [] le = omega arith
sum_by_mono_at f h (g ∷ groups) le =
    let here : f g ≤ h g = All-head (λ x. f x ≤ h x) g groups le in
    let rest : sum_by f groups ≤ sum_by h groups = sum_by_mono_at f h groups (All-tail (λ x. f x ≤ h x) g groups le) in
    omega (arith, here, rest, sum_by-cons f g groups, sum_by-cons h g groups)

-- parts of a set that have no common number, one for each group, sum up to no more than it
parts_add_up : (v : List ℕ) (part : ℕ → ℕ) (groups : List ℕ) (set : ℕ)
    → ((a b i : ℕ) → Apart a b → has (part a) i ≡ true → has (part b) i ≡ true → ⊥)
    → AllPairs Apart groups → All (λ group. (i : ℕ) → has (part group) i ≡ true → has set i ≡ true) groups
    → sum_by (λ group. sum_over v (part group)) groups ≤ sum_over v set
parts_add_up v part [] set distinct apart within = omega arith
parts_add_up v part (g ∷ groups) set distinct apart within =
    let rest : ℕ = minus set (part g) in
    let later : sum_by (λ group. sum_over v (part group)) groups ≤ sum_over v rest
    = parts_add_up v part groups rest distinct (pairs_tail g groups apart) (λ k d lt i there.
    has-minus set (part g) i ∙ and_from (has set i) (not (has (part g) i))
    (All-tail (λ group. (i : ℕ) → has (part group) i ≡ true → has set i ≡ true) g groups within k d lt i there)
    (ap not (false_from_ne_true (has (part g) i) (λ first. distinct g (get_or groups k d) i (pairs_head g groups apart k d lt) first there)))) in
    let here : sum_over v (part g) ≤ sum_over v (meet set (part g)) = sum_over_mono v (part g) (meet set (part g)) (λ i there.
    has-meet set (part g) i ∙ and_from (has set i) (has (part g) i) (within 0 0 (omega arith) i there) there) in
    omega (arith, later, here, sum_over-minus v set (part g), sum_by-cons (λ group. sum_over v (part group)) g groups)

-- ---- the steps

pub by_step : (days work wait plain later steps : ℕ) → plain + later ≤ steps → (parts : ℕ) → days * parts ≤ days * wait
    → (days * work + plain) + (days * parts + later) ≤ days * (work + wait) + steps
by_step days work wait plain later steps rest parts less =
    let split : days * (work + wait) ≡ days * work + days * wait = grind arith in
    omega (arith, rest, less, split)

-- each of the group worked outside the set
abbrev pub WorkedBefore : FilmData → ℕ → ℕ → Type 0
WorkedBefore film set group = (actor : ℕ) → has group actor ≡ true → WorksOutside film set actor

pub worked_before_without : (film : FilmData) (set s group : ℕ) → WorkedBefore film set group → WorkedBefore film (without set s) group
worked_before_without film set s group before actor member =
    let found = before actor member in
    (found.0, found.1, has-without set s found.0 ∙ and_right (not (eqb s found.0)) (has set found.0) found.2, found.3)

module _ (film : FilmData) (is : IsFilm film) where
  -- nobody waits for two groups
  idle_apart : (set s a b i : ℕ) → Apart a b → has (idle_of film a set s) i ≡ true → has (idle_of film b set s) i ≡ true → ⊥
  idle_apart set s a b i apart in_a in_b = apart i (has_from_idle film a set s i in_a).0 (has_from_idle film b set s i in_b).0

  -- who waits is on location
  idle_located : (set s group : ℕ) → LiesIn film set → WorkedBefore film set group → (i : ℕ) → has (idle_of film group set s) i ≡ true
      → has (minus (on_location film set) (slice_index film.casts s)) i ≡ true
  idle_located set s group lies before i there =
      let idle = has_from_idle film group set s i there in
      has-minus (on_location film set) (slice_index film.casts s) i
      ∙ and_from (has (on_location film set) i) (not (has (slice_index film.casts s) i))
      ((location_by_scenes film set i is lies).1 (cast_has film set i idle.1, before i idle.0)) (ap not idle.2)

  -- who of the groups waits along a list is on location, and paid in its steps
  groups_within_steps : (groups : List ℕ) (set : ℕ) (scenes : List ℕ) → LiesIn film set → AllOnce set scenes
      → All (WorkedBefore film set) groups → AllPairs Apart groups
      → plain_bound film set + sum_by (λ group. wait_pay film group set scenes) groups ≤ steps_cost film set scenes
  groups_within_steps groups set [] lies each before apart =
      let plain : plain_bound film set ≡ 0
      = ap (plain_bound film) each.1 ∙ ap (sum_by (λ scene. slice_index film.days scene * sum_over film.rates (slice_index film.casts scene))) members-empty in
      omega (arith, plain, sum_by-none groups)
  groups_within_steps groups set (s ∷ scenes) lies each before apart =
      let is_set : IsSet set = is_set_below (length film.casts) set is.scene_count.1 lies in
      let days : ℕ = slice_index film.days s in
      let work : ℕ = sum_over film.rates (slice_index film.casts s) in
      let wait : ℕ = sum_over film.holds (minus (on_location film set) (slice_index film.casts s)) in
      let waits : ℕ = sum_by (λ group. sum_over film.holds (idle_of film group set s)) groups in
      let later : ℕ = sum_by (λ group. wait_pay film group (without set s) scenes) groups in
      let rest : plain_bound film (without set s) + later ≤ steps_cost film (without set s) scenes
      = groups_within_steps groups (without set s) scenes (LiesBelow-without (length film.casts) set s lies) (each.0.1, each.1)
      (All-weaker (WorkedBefore film set) (WorkedBefore film (without set s)) (λ group. worked_before_without film set s group) groups before) apart in
      let plain : plain_bound film set ≡ days * work + plain_bound film (without set s)
      = sum_members-without (λ scene. slice_index film.days scene * sum_over film.rates (slice_index film.casts scene)) set s is_set each.0.0 in
      let split : sum_by (λ group. wait_pay film group set (s ∷ scenes)) groups ≡ days * waits + later
      = sum_by-scale_add days (λ group. sum_over film.holds (idle_of film group set s)) (λ group. wait_pay film group (without set s) scenes) groups in
      let parts : waits ≤ wait
      = parts_add_up film.holds (λ group. idle_of film group set s) groups (minus (on_location film set) (slice_index film.casts s)) (idle_apart set s) apart
      (All-weaker (WorkedBefore film set) _ (λ group. idle_located set s group lies) groups before) in
      let here : (days * work + plain_bound film (without set s)) + (days * waits + later) ≤ days * (work + wait) + steps_cost film (without set s) scenes
      = by_step days work wait (plain_bound film (without set s)) later (steps_cost film (without set s) scenes) rest waits (mul-le-mul_left days parts) in
      omega (arith, plain, split, here)

  pub groups_bound_tails : (set : ℕ) (groups scenes : List ℕ) → LiesIn film set → AreGroups film set groups → AllOnce set scenes
      → plain_bound film set + groups_extra film set groups ≤ steps_cost film set scenes
  groups_bound_tails set groups scenes lies are each =
      let is_set : IsSet set = is_set_below (length film.casts) set is.scene_count.1 lies in
      let before : All (WorkedBefore film set) groups = All-weaker (λ group. (actor : ℕ) → has group actor ≡ true → has (on_location film set) actor ≡ true) (WorkedBefore film set)
      (λ group located actor member. ((location_by_scenes film set actor is lies).0 (located actor member)).1) groups are.located in
      let extras : groups_extra film set groups ≤ sum_by (λ group. wait_pay film group set scenes) groups
      = sum_by_mono_at (group_extra (group_data film) set) (λ group. wait_pay film group set scenes) groups
      (All-weaker (λ group. (actor : ℕ) → has group actor ≡ true → has (on_location film set) actor ≡ true) _ (λ group located.
      extra_is_least film group set scenes (is_set_below (length film.rates) group is.actor_count (λ i member. location_lies film set is i (located i member))) is_set each) groups are.located) in
      omega (arith, extras, groups_within_steps groups set scenes lies each before are.apart)
