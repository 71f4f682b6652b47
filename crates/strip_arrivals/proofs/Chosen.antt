-- Scenes of a set that are chosen by a test, and days of them by who of the newcomers works there.
use Rattle.std.proofs.Common.{◌≡◌, ℕ, ◌+◌, ◌*◌, ◌<◌, ◌≤◌, Bool, true, false, ◌&&◌, ◌||◌, cond, eqb, List, [], ◌∷◌, Contains, filter, slice_index, sym, ap, ◌∙◌, subst, inl, inr, arith}
use Rattle.std.specs.List.{list_all}
use Rattle.std.proofs.lemmas.Bool.{and_parts, cases_eq, eq-eqb, eqb-true, and_from, cases_Bool}
use Rattle.std.proofs.lemmas.List.Elements.{All-contains_itself, All-weaker}
use Rattle.std.proofs.lemmas.List.Sums.{list_all-from_AllPass}
use Rattle.strip_mask.specs.Set.{IsSet, has, meet, members, sum_over, union, numbers_below}
use Rattle.strip_mask.specs.Sums.{sum_below}
use Rattle.strip_mask.proofs.ByMembers.{has-meet, has-union, has_from_meet, has_from_union, below_64}
use Rattle.strip_mask.proofs.Below.{is_set_below}
use Rattle.strip_mask.proofs.Members.{below_from_members, has_from_members, contains_number, members_is}
use Rattle.strip_mask.proofs.Sums.{sum_below-ext, sum_below-none, sum_below-scale, sum_below-suc, sum_below-swap, sum_below-zero, sum_below_mono}
use Rattle.strip_mask.proofs.Totals.{sum_over_is}
use Rattle.strip_group.specs.Group.{GroupData}
use Rattle.strip_arrivals.specs.Arrivals.{is_without}
use Rattle.strip_arrivals.specs.Company.{just, scenes_where}
use Rattle.strip_arrivals.specs.Gross.{weighted}
use Rattle.strip_mask.proofs.Lists.{contains_cases, contains_none}
use Rattle.strip_arrivals.proofs.Lists.{contains_filter, contains_from_filter}
use Rattle.strip_arrivals.proofs.Casts.{has_listed, is_none, listed_has, none_works}
use Rattle.strip_mask.proofs.Agree.{same_test}
use Rattle.strip_arrivals.proofs.Gross.{weighted_alike}
use Rattle.std.proofs.Math.Bool.{or-true}

-- ---- lists, and short sums

-- each element passes
pub all_passes : {X : Type 0} (p : X → Bool) (xs : List X) (x : X) → list_all p xs ≡ true → Contains xs x → p x ≡ true
all_passes p [] x all there = absurd (contains_none x there)
all_passes p (y ∷ ys) x all there =
    let parts = and_parts (p y) (list_all p ys) all in
    elim (contains_cases y ys x there) [
      | inl same ↦ subst (λ z. p z ≡ true) same parts.0
      | inr later ↦ all_passes p ys x parts.1 later
    ]

-- all pass where each does
pub passes_all : {X : Type 0} (p : X → Bool) (xs : List X) → ((x : X) → Contains xs x → p x ≡ true) → list_all p xs ≡ true
passes_all p xs each = list_all-from_AllPass p xs (All-weaker (Contains xs) (λ x. p x ≡ true) each xs (All-contains_itself xs))

-- sums of none, one, two and four
pub sum_none : (f : ℕ → ℕ) → sum_below 0 f ≡ 0
sum_none f = sum_below-zero f

pub sum_one : (f : ℕ → ℕ) → sum_below 1 f ≡ f 0
sum_one f = sum_below-suc 0 f ∙ ap (λ (n : ℕ). n + f 0) (sum_below-zero f) ∙ omega arith

pub sum_two : (f : ℕ → ℕ) → sum_below 2 f ≡ f 0 + f 1
sum_two f = sum_below-suc 1 f ∙ ap (λ (n : ℕ). n + f 1) (sum_one f)

pub sum_four : (f : ℕ → ℕ) → sum_below 4 f ≡ f 0 + f 1 + f 2 + f 3
sum_four f = sum_below-suc 3 f ∙ ap (λ (n : ℕ). n + f 3) (sum_below-suc 2 f ∙ ap (λ (n : ℕ). n + f 2) (sum_two f))

-- the order of a comparison is free
pub eqb_swap : (a b : ℕ) → eqb a b ≡ eqb b a
eqb_swap a b = same_test (eqb a b) (eqb b a) (λ same. eq-eqb b a (sym (eqb-true a b same))) (λ same. eq-eqb a b (sym (eqb-true b a same)))

-- ---- scenes that pass

-- one that was chosen is of the set, and passes
pub from_scenes : (test : ℕ → Bool) (set scene : ℕ) → has (scenes_where test set) scene ≡ true → (has set scene ≡ true) × (test scene ≡ true)
from_scenes test set scene there =
    let parts = contains_from_filter test (members set) scene (listed_has (filter test (members set)) scene there) in
    (has_from_members set scene parts.0, parts.1)

-- what passes one test passes another one
pub scenes_mono : (first second : ℕ → Bool) (set scene : ℕ) → (first scene ≡ true → second scene ≡ true) → has (scenes_where first set) scene ≡ true
    → has (scenes_where second set) scene ≡ true
scenes_mono first second set scene also there =
    let parts = contains_from_filter first (members set) scene (listed_has (filter first (members set)) scene there) in
    has_listed (filter second (members set)) scene (contains_filter second (members set) scene parts.0 (also parts.1))

-- what a set of scenes has that is chosen by a test
pub has_chosen : (test : ℕ → Bool) (set scene : ℕ) → (has set scene ≡ true → scene < 64) → has (scenes_where test set) scene ≡ (has set scene && test scene)
has_chosen test set scene small = same_test (has (scenes_where test set) scene) (has set scene && test scene)
    (λ there. let parts = from_scenes test set scene there in and_from (has set scene) (test scene) parts.0 parts.1)
    (λ both. let parts = and_parts (has set scene) (test scene) both in
    let member : Contains (members set) scene
    = subst (λ (xs : List ℕ). Contains xs scene) (sym (members_is set)) (contains_filter (has set) (numbers_below 64) scene (contains_number 64 scene (small parts.0)) parts.0) in
    has_listed (filter test (members set)) scene (contains_filter test (members set) scene member parts.1))

pub has_where : (test : ℕ → Bool) (set scene : ℕ) → IsSet set → has (scenes_where test set) scene ≡ (has set scene && test scene)
has_where test set scene small = has_chosen test set scene (below_64 set scene small)

-- the scenes that are chosen are a set
pub scenes_small : (test : ℕ → Bool) (set : ℕ) → IsSet (scenes_where test set)
scenes_small test set = is_set_below 64 (scenes_where test set) (omega arith) (λ scene there.
    below_from_members set scene (contains_from_filter test (members set) scene (listed_has (filter test (members set)) scene there)).0)

-- ---- open scenes

-- nobody off works in an open scene
pub open_parts : (film : GroupData) (left gone scene : ℕ) → is_without film (union left gone) scene ≡ true
    → (is_without film left scene ≡ true) × (is_without film gone scene ≡ true)
open_parts film left gone scene none = (
  is_none film left scene (λ i works off. none_works film (union left gone) scene i none works (has-union left gone i ∙ ap (λ b. b || has gone i) off)),
  is_none film gone scene (λ i works off. none_works film (union left gone) scene i none works (has-union left gone i ∙ ap (λ b. has left i || b) off ∙ or-true (has left i))),
)

-- and one is open where nobody off works
pub open_from : (film : GroupData) (left gone scene : ℕ) → is_without film left scene ≡ true → is_without film gone scene ≡ true
    → is_without film (union left gone) scene ≡ true
open_from film left gone scene none_left none_gone = is_none film (union left gone) scene (λ i works off. elim (has_from_union left gone i off) [
  | inl has_left ↦ none_works film left scene i none_left works has_left
  | inr is_gone ↦ none_works film gone scene i none_gone works is_gone
])

-- ---- days by class

module _ (film : GroupData) (set newcomers chosen : ℕ) (small : IsSet set) (inside : (scene : ℕ) → has chosen scene ≡ true → has set scene ≡ true) where
  -- the chosen scenes of a class
  abbrev pub class : ℕ → ℕ
  class these = meet chosen (just film newcomers these set)

  -- of which class a chosen scene is
  class_at : (these scene : ℕ) → has chosen scene ≡ true → has (class these) scene ≡ eqb these (meet (slice_index film.casts scene) newcomers)
  class_at these scene there =
      let test : ℕ → Bool = λ s. eqb (meet (slice_index film.casts s) newcomers) these in
      has-meet chosen (just film newcomers these set) scene ∙ (λ i. there i && has_where test set scene small i)
      ∙ ap (λ b. b && test scene) (inside scene there) ∙ eqb_swap (meet (slice_index film.casts scene) newcomers) these

  -- a scene that isn't chosen is of no class
  missing_at : (these scene : ℕ) → has chosen scene ≡ false → has (class these) scene ≡ false
  missing_at these scene missing = has-meet chosen (just film newcomers these set) scene ∙ ap (λ b. b && has (just film newcomers these set) scene) missing

  -- a number at the class of a scene, as often as that one is told
  one_kind : (classes : ℕ) (kinds : ℕ → ℕ) (scene paid : ℕ) → has chosen scene ≡ true
      → sum_below classes (λ kind. cond {A = ℕ} (has (class (kinds kind)) scene) paid 0)
      ≡ paid * sum_below classes (λ kind. cond {A = ℕ} (eqb (kinds kind) (meet (slice_index film.casts scene) newcomers)) 1 0)
  one_kind classes kinds scene paid there =
      let told : ℕ → ℕ = λ kind. cond {A = ℕ} (eqb (kinds kind) (meet (slice_index film.casts scene) newcomers)) 1 0 in
      sum_below-ext classes (λ kind. cond {A = ℕ} (has (class (kinds kind)) scene) paid 0) (λ kind. paid * told kind)
      (λ kind _. ap (λ b. cond {A = ℕ} b paid 0) (class_at (kinds kind) scene there) ∙ scaled (eqb (kinds kind) (meet (slice_index film.casts scene) newcomers)) paid)
      ∙ sum_below-scale classes paid told
    where
      scaled : (b : Bool) (n : ℕ) → cond {A = ℕ} b n 0 ≡ n * cond {A = ℕ} b 1 0
      scaled true n = omega arith
      scaled false n = omega arith

  -- and none where it isn't chosen
  no_kind : (classes : ℕ) (kinds : ℕ → ℕ) (scene paid : ℕ) → has chosen scene ≡ false → sum_below classes (λ kind. cond {A = ℕ} (has (class (kinds kind)) scene) paid 0) ≡ 0
  no_kind classes kinds scene paid missing = sum_below-none classes (λ kind. cond {A = ℕ} (has (class (kinds kind)) scene) paid 0)
      (λ kind _. ap (λ b. cond {A = ℕ} b paid 0) (missing_at (kinds kind) scene missing))

  -- the chosen scenes at their rates, class by class
  pub by_classes : (classes : ℕ) (kinds rate f : ℕ → ℕ)
      → ((scene : ℕ) → has chosen scene ≡ true
      → sum_below classes (λ kind. cond {A = ℕ} (eqb (kinds kind) (meet (slice_index film.casts scene) newcomers)) 1 0) ≡ 1)
      → ((kind scene : ℕ) → kind < classes → has chosen scene ≡ true → meet (slice_index film.casts scene) newcomers ≡ kinds kind → f scene ≡ rate kind)
      → sum_below classes (λ kind. rate kind * sum_over film.days (class (kinds kind))) ≡ weighted film (has chosen) f
  by_classes classes kinds rate f once alike =
      sum_below-ext classes (λ kind. rate kind * sum_over film.days (class (kinds kind))) (λ kind. weighted film (has (class (kinds kind))) f)
      (λ kind below. sym (weighted_alike film (class (kinds kind)) (rate kind) f (λ scene there.
      let both = has_from_meet chosen (just film newcomers (kinds kind) set) scene there in
      alike kind scene below both.0 (eqb-true (meet (slice_index film.casts scene) newcomers) (kinds kind)
      (from_scenes (λ s. eqb (meet (slice_index film.casts s) newcomers) (kinds kind)) set scene both.1).1))))
      ∙ sum_below-swap classes 64 (λ kind scene. cond {A = ℕ} (has (class (kinds kind)) scene) (slice_index film.days scene * f scene) 0)
      ∙ sum_below-ext 64 (λ scene. sum_below classes (λ kind. cond {A = ℕ} (has (class (kinds kind)) scene) (slice_index film.days scene * f scene) 0))
      (λ scene. cond {A = ℕ} (has chosen scene) (slice_index film.days scene * f scene) 0)
      (λ scene _. elim (cases_Bool (has chosen scene)) [
        | inl there ↦ one_kind classes kinds scene (slice_index film.days scene * f scene) there
            ∙ ap (λ (n : ℕ). slice_index film.days scene * f scene * n) (once scene there) ∙ by_one (slice_index film.days scene * f scene)
            ∙ sym (ap (λ b. cond {A = ℕ} b (slice_index film.days scene * f scene) 0) there)
        | inr missing ↦ no_kind classes kinds scene (slice_index film.days scene * f scene) missing
            ∙ sym (ap (λ b. cond {A = ℕ} b (slice_index film.days scene * f scene) 0) missing)
      ])
    where
      by_one : (n : ℕ) → n * 1 ≡ n
      by_one n = omega arith

  -- classes that share no scene have no more days than all
  pub days_most : (classes : ℕ) (kinds : ℕ → ℕ) → ((these : ℕ) → sum_below classes (λ kind. cond {A = ℕ} (eqb (kinds kind) these) 1 0) ≤ 1)
      → sum_below classes (λ kind. sum_over film.days (class (kinds kind))) ≤ sum_over film.days chosen
  days_most classes kinds most =
      let at : ℕ → ℕ → ℕ = λ kind scene. cond {A = ℕ} (has (class (kinds kind)) scene) (slice_index film.days scene) 0 in
      let all : ℕ → ℕ = λ scene. cond {A = ℕ} (has chosen scene) (slice_index film.days scene) 0 in
      let parts : sum_below classes (λ kind. sum_over film.days (class (kinds kind))) ≡ sum_below 64 (λ scene. sum_below classes (λ kind. at kind scene))
      = sum_below-ext classes (λ kind. sum_over film.days (class (kinds kind))) (λ kind. sum_below 64 (at kind)) (λ kind _. sum_over_is film.days (class (kinds kind)))
      ∙ sum_below-swap classes 64 at in
      let within : sum_below 64 (λ scene. sum_below classes (λ kind. at kind scene)) ≤ sum_below 64 all
      = sum_below_mono 64 (λ scene. sum_below classes (λ kind. at kind scene)) all (λ scene _. elim (cases_Bool (has chosen scene)) [
        | inl there ↦ (let told : ℕ = sum_below classes (λ kind. cond {A = ℕ} (eqb (kinds kind) (meet (slice_index film.casts scene) newcomers)) 1 0) in
            let here : all scene ≡ slice_index film.days scene = ap (λ b. cond {A = ℕ} b (slice_index film.days scene) 0) there in
            let low : slice_index film.days scene * told ≤ slice_index film.days scene
            = at_most (slice_index film.days scene) told (most (meet (slice_index film.casts scene) newcomers)) in
            omega (arith, one_kind classes kinds scene (slice_index film.days scene) there, low, here))
        | inr missing ↦ omega (arith, no_kind classes kinds scene (slice_index film.days scene) missing)
      ]) in
      omega (arith, parts, within, sum_over_is film.days chosen)
    where
      by_none : (n : ℕ) → n * 0 ≡ 0
      by_none n = omega arith

      by_one : (n : ℕ) → n * 1 ≡ n
      by_one n = omega arith

      at_most : (n m : ℕ) → m ≤ 1 → n * m ≤ n
      at_most n m le = elim (cases_eq m 0) [
        | inl none ↦ (let nothing : n * m ≡ 0 = ap (λ (k : ℕ). n * k) none ∙ by_none n in omega (arith, nothing))
        | inr some ↦ (let one : m ≡ 1 = omega (arith, le, some) in
            let same : n * m ≡ n = ap (λ (k : ℕ). n * k) one ∙ by_one n in omega (arith, same))
      ]
