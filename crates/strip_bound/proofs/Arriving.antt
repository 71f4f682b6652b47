-- What groups and newcomers are paid for waiting along a list is within its tail.
use Rattle.std.proofs.Common.{◌≡◌, ℕ, zero, suc, ◌+◌, ◌*◌, ◌<◌, ◌≤◌, true, false, not, List, [], ◌∷◌, length, slice_index, sum_by, inl, inr, refl, ap, ◌∙◌, arith}
use Rattle.std.proofs.Math.Nat.{mul-le-mul_left}
use Rattle.std.proofs.lemmas.Bool.{and_from, false_from_ne_true}
use Rattle.strip_mask.specs.Set.{IsSet, has, meet, minus, union, without, sum_over}
use Rattle.strip_mask.specs.Sums.{sum_below}
use Rattle.strip_mask.proofs.ByMembers.{has-minus, has-empty, has_from_meet, has_from_minus, has_from_union, has_from_without}
use Rattle.strip_mask.proofs.Below.{is_set_below, LiesBelow-without}
use Rattle.strip_mask.proofs.Members.{members-empty}
use Rattle.strip_mask.proofs.Sums.{sum_below-zero, sum_below-suc}
use Rattle.strip_mask.proofs.Totals.{sum_over_mono, sum_members-without}
use Rattle.strip_model.specs.Film.{FilmData}
use Rattle.strip_film.specs.Bounds.{plain_bound}
use Rattle.strip_film.specs.Film.{IsFilm, LiesIn}
use Rattle.strip_film.specs.Shoot.{on_location}
use Rattle.strip_film.specs.Finish.{steps_cost}
use Rattle.strip_film.specs.Located.{WorksInside, WorksOutside}
use Rattle.strip_film.proofs.Located.{location_by_scenes}
use Rattle.strip_film.proofs.Lists.{AllOnce, AllRemained}
use Rattle.strip_arrivals.specs.Arrivals.{cast_of}
use Rattle.strip_arrivals.specs.Along.{HasEach, waiting, waiting_at, waiting_from}
use Rattle.strip_arrivals.proofs.Adds.{waiting_adds}
use Rattle.strip_bound.specs.Bounds.{group_data}
use Rattle.strip_bound.proofs.Tails.{by_step, WorkedBefore, worked_before_without}

-- a list that has each scene once, in the words of the values of groups
pub has_each : (set : ℕ) (scenes : List ℕ) → AllOnce set scenes → HasEach set scenes
has_each set [] each = each.1
has_each set (s ∷ scenes) each = (each.0.0, has_each (without set s) scenes (each.0.1, each.1))

-- ---- all of the groups together

-- those of the first so many sets
abbrev pub joined : (ℕ → ℕ) → ℕ → ℕ
joined part zero = 0
joined part (suc n) = union (joined part n) (part n)

pub from_joined : (part : ℕ → ℕ) (n i : ℕ) → has (joined part n) i ≡ true → (k : ℕ) × (k < n) × (has (part k) i ≡ true)
from_joined part zero i there = absurd (let f : has 0 i ≡ false = has-empty i in cc)
from_joined part (suc n) i there = elim (has_from_union (joined part n) (part n) i there) [
  | inl early ↦ (let found = from_joined part n i early in (found.0, omega (arith, found.1), found.2))
  | inr last ↦ (n, omega arith, last)
]

module _ (film : FilmData) (group newcomers : ℕ → ℕ)
    (groups_apart : (j k i : ℕ) → j < k → has (group j) i ≡ true → has (group k) i ≡ true → ⊥)
    (newcomers_apart : (j k i : ℕ) → j < k → has (newcomers j) i ≡ true → has (newcomers k) i ≡ true → ⊥)
    (both_apart : (j k i : ℕ) → has (group j) i ≡ true → has (newcomers k) i ≡ true → ⊥) where
  apart : (n i : ℕ) → has (union (joined group n) (joined newcomers n)) i ≡ true → has (union (group n) (newcomers n)) i ≡ false
  apart n i there = false_from_ne_true (has (union (group n) (newcomers n)) i) (λ last.
      elim (has_from_union (joined group n) (joined newcomers n) i there) [
        | inl first ↦ (let found = from_joined group n i first in elim (has_from_union (group n) (newcomers n) i last) [
          | inl same ↦ groups_apart found.0 n i found.1 found.2 same
          | inr other ↦ both_apart found.0 n i found.2 other
        ])
        | inr second ↦ (let found = from_joined newcomers n i second in elim (has_from_union (group n) (newcomers n) i last) [
          | inl other ↦ both_apart n found.0 i other found.2
          | inr same ↦ newcomers_apart found.0 n i found.1 found.2 same
        ])
      ])

  pub waits_together : (n : ℕ) (scenes : List ℕ)
      → sum_below n (λ place. waiting (group_data film) (group place) (newcomers place) scenes) ≤ waiting (group_data film) (joined group n) (joined newcomers n) scenes
  waits_together zero scenes =
      omega (arith, sum_below-zero (λ place. waiting (group_data film) (group place) (newcomers place) scenes))
  waits_together (suc n) scenes = omega (
    arith,
    sum_below-suc n (λ place. waiting (group_data film) (group place) (newcomers place) scenes),
    waits_together n scenes,
    waiting_adds (group_data film) (joined group n) (group n) (joined newcomers n) (newcomers n) (apart n) scenes,
  )

-- ---- along the list

module _ (film : FilmData) (is : IsFilm film) where
  -- who comes with a scene has worked before those that remain
  before_with : (set s came : ℕ) → LiesIn film set → has set s ≡ true → WorkedBefore film set came → WorkedBefore film (without set s) (union came (slice_index film.casts s))
  before_with set s came lies there before actor member = elim (has_from_union came (slice_index film.casts s) actor member) [
    | inl old ↦ worked_before_without film set s came before actor old
    | inr new ↦ (s, lies s there, gone, new)
  ]
    where
      gone : has (without set s) s ≡ false
      gone = false_from_ne_true (has (without set s) s) (λ stays. (has_from_without set s s stays).0 refl)

  -- who works in a scene of the list works in the set
  works_inside : (set : ℕ) (scenes : List ℕ) (actor : ℕ) → AllRemained set scenes → has (cast_of (group_data film) scenes) actor ≡ true → WorksInside film set actor
  works_inside set [] actor remained there = absurd (let f : has 0 actor ≡ false = has-empty actor in cc)
  works_inside set (s ∷ scenes) actor remained there = elim (has_from_union (slice_index film.casts s) (cast_of (group_data film) scenes) actor there) [
    | inl here ↦ (s, remained.0, here)
    | inr later ↦ (let found = works_inside (without set s) scenes actor remained.1 later in
        (found.0, (has_from_without set s found.0 found.1).1, found.2))
  ]

  inside_more : (set s actor : ℕ) → WorksInside film (without set s) actor → WorksInside film set actor
  inside_more set s actor found = (found.0, (has_from_without set s found.0 found.1).1, found.2)

  -- who waits is on location
  waiting_located : (group newcomers came set s : ℕ) (later : List ℕ) → LiesIn film set → AllRemained (without set s) later
      → WorkedBefore film set group → WorkedBefore film set came → (i : ℕ) → has (waiting_at (group_data film) group newcomers came s later) i ≡ true
      → has (minus (on_location film set) (slice_index film.casts s)) i ≡ true
  waiting_located group newcomers came set s later lies remained before_group before_came i there =
      let outer = has_from_minus (meet (union group (meet newcomers came)) (cast_of (group_data film) later)) (slice_index film.casts s) i there in
      let inner = has_from_meet (union group (meet newcomers came)) (cast_of (group_data film) later) i outer.0 in
      let worked : WorksOutside film set i = elim (has_from_union group (meet newcomers came) i inner.0) [
        | inl member ↦ before_group i member
        | inr newcomer ↦ before_came i (has_from_meet newcomers came i newcomer).1
      ] in
      has-minus (on_location film set) (slice_index film.casts s) i
      ∙ and_from (has (on_location film set) i) (not (has (slice_index film.casts s) i))
      ((location_by_scenes film set i is lies).1 (inside_more set s i (works_inside (without set s) later i remained inner.1), worked)) (ap not outer.1)

  from_within_steps : (group newcomers came set : ℕ) (scenes : List ℕ) → LiesIn film set → AllOnce set scenes → WorkedBefore film set group → WorkedBefore film set came
      → plain_bound film set + waiting_from (group_data film) group newcomers came scenes ≤ steps_cost film set scenes
  from_within_steps group newcomers came set [] lies each before_group before_came =
      let plain : plain_bound film set ≡ 0 = ap (plain_bound film) each.1 ∙ plain_of_none in
      omega (arith, plain)
    where
      plain_of_none : plain_bound film 0 ≡ 0
      plain_of_none = ap (sum_by (λ scene. slice_index film.days scene * sum_over film.rates (slice_index film.casts scene))) members-empty
  from_within_steps group newcomers came set (s ∷ scenes) lies each before_group before_came =
      let is_set : IsSet set = is_set_below (length film.casts) set is.scene_count.1 lies in
      let days : ℕ = slice_index film.days s in
      let work : ℕ = sum_over film.rates (slice_index film.casts s) in
      let wait : ℕ = sum_over film.holds (minus (on_location film set) (slice_index film.casts s)) in
      let waits : ℕ = sum_over film.holds (waiting_at (group_data film) group newcomers came s scenes) in
      let seen : ℕ = union came (slice_index film.casts s) in
      let later : ℕ = waiting_from (group_data film) group newcomers seen scenes in
      let rest : plain_bound film (without set s) + later ≤ steps_cost film (without set s) scenes
      = from_within_steps group newcomers seen (without set s) scenes (LiesBelow-without (length film.casts) set s lies) (each.0.1, each.1)
      (worked_before_without film set s group before_group) (before_with set s came lies each.0.0 before_came) in
      let plain : plain_bound film set ≡ days * work + plain_bound film (without set s)
      = sum_members-without (λ scene. slice_index film.days scene * sum_over film.rates (slice_index film.casts scene)) set s is_set each.0.0 in
      let parts : waits ≤ wait = sum_over_mono film.holds (waiting_at (group_data film) group newcomers came s scenes) (minus (on_location film set) (slice_index film.casts s))
      (waiting_located group newcomers came set s scenes lies each.0.1 before_group before_came) in
      let here : (days * work + plain_bound film (without set s)) + (days * waits + later) ≤ days * (work + wait) + steps_cost film (without set s) scenes
      = by_step days work wait (plain_bound film (without set s)) later (steps_cost film (without set s) scenes) rest waits (mul-le-mul_left days parts) in
      omega (arith, plain, here)

  pub waiting_within_steps : (group newcomers set : ℕ) (scenes : List ℕ) → LiesIn film set → AllOnce set scenes
      → ((actor : ℕ) → has group actor ≡ true → has (on_location film set) actor ≡ true)
      → plain_bound film set + waiting (group_data film) group newcomers scenes ≤ steps_cost film set scenes
  waiting_within_steps group newcomers set scenes lies each located =
      from_within_steps group newcomers 0 set scenes lies each
      (λ actor member. ((location_by_scenes film set actor is lies).0 (located actor member)).1)
      (λ actor none. absurd (let f : has 0 actor ≡ false = has-empty actor in cc))
