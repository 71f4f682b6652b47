-- What those of a group get for the days of the scenes in which they work, actor by actor and scene by scene.
use Rattle.std.proofs.Common.{◌≡◌, ℕ, ◌+◌, ◌*◌, Bool, true, false, ◌&&◌, ◌||◌, cond, List, sum_by, slice_index, refl, sym, ap, ◌∙◌, arith}
use Rattle.strip_mask.specs.Set.{IsSet, has, meet, members, sum_over, union}
use Rattle.strip_mask.specs.Sums.{sum_below}
use Rattle.strip_mask.proofs.ByMembers.{has-meet, has-union, empty_has}
use Rattle.strip_mask.proofs.Members.{members_is}
use Rattle.strip_mask.proofs.Sums.{sum_below-ext, sum_below-none, sum_below-scale, sum_below-swap}
use Rattle.strip_mask.proofs.Totals.{sum_over_is, sum_kept}
use Rattle.strip_group.specs.Group.{GroupData}
use Rattle.strip_arrivals.specs.Arrivals.{StateData, arrivals_value, at_first, is_open}
use Rattle.strip_arrivals.specs.Gross.{IsGross, own_pay}
use Rattle.strip_arrivals.proofs.Casts.{is_none}
use Rattle.strip_arrivals.proofs.Runs.{value_is_least}
use Rattle.std.proofs.Math.Bool.{and_comm}

module _ (film : GroupData) (set group : ℕ) where
  -- the days of the scenes of the set in which an actor works
  abbrev pub days_with : ℕ → ℕ
  days_with actor = sum_below 64 (λ scene. cond {A = ℕ} (has set scene && has (slice_index film.casts scene) actor) (slice_index film.days scene) 0)

  pub days_are : (actor plays : ℕ) → ((scene : ℕ) → has plays scene ≡ has (slice_index film.casts scene) actor) → sum_over film.days (meet plays set) ≡ days_with actor
  days_are actor plays told = sum_over_is film.days (meet plays set)
      ∙ sum_below-ext 64 (λ scene. cond {A = ℕ} (has (meet plays set) scene) (slice_index film.days scene) 0)
      (λ scene. cond {A = ℕ} (has set scene && has (slice_index film.casts scene) actor) (slice_index film.days scene) 0) (λ scene _.
      ap (λ b. cond {A = ℕ} b (slice_index film.days scene) 0) (has-meet plays set scene ∙ ap (λ b. b && has set scene) (told scene) ∙ and_comm (has (slice_index film.casts scene) actor) (has set scene)))

  abbrev pub own : ℕ → ℕ
  own actor = slice_index film.holds actor * days_with actor

  abbrev each : ℕ → ℕ → ℕ
  each scene actor = cond {A = ℕ} (has set scene && (has (slice_index film.casts scene) actor && has group actor)) (slice_index film.days scene * slice_index film.holds actor) 0

  by_actor : (actor : ℕ) → cond {A = ℕ} (has group actor) (own actor) 0 ≡ sum_below 64 (λ scene. each scene actor)
  by_actor actor =
      by_test (has group actor)
    where
      term : (b : Bool) → ℕ → ℕ
      term b scene = cond {A = ℕ} (has set scene && (has (slice_index film.casts scene) actor && b)) (slice_index film.days scene * slice_index film.holds actor) 0

      one : (s c : Bool) (d h : ℕ) → h * cond {A = ℕ} (s && c) d 0 ≡ cond {A = ℕ} (s && (c && true)) (d * h) 0
      one true true d h = omega arith
      one true false d h = omega arith
      one false c d h = omega arith

      none : (s c : Bool) (n : ℕ) → cond {A = ℕ} (s && (c && false)) n 0 ≡ 0
      none true true n = refl
      none true false n = refl
      none false c n = refl

      by_test : (b : Bool) → cond {A = ℕ} b (own actor) 0 ≡ sum_below 64 (λ scene. cond {A = ℕ} (has set scene && (has (slice_index film.casts scene) actor && b)) (slice_index film.days scene * slice_index film.holds actor) 0)
      by_test true =
          sym (sum_below-scale 64 (slice_index film.holds actor) (λ scene. cond {A = ℕ} (has set scene && has (slice_index film.casts scene) actor) (slice_index film.days scene) 0))
          ∙ sum_below-ext 64 (λ scene. slice_index film.holds actor * cond {A = ℕ} (has set scene && has (slice_index film.casts scene) actor) (slice_index film.days scene) 0)
          (λ scene. cond {A = ℕ} (has set scene && (has (slice_index film.casts scene) actor && true)) (slice_index film.days scene * slice_index film.holds actor) 0)
          (λ scene _. one (has set scene) (has (slice_index film.casts scene) actor) (slice_index film.days scene) (slice_index film.holds actor))
      by_test false = sym (sum_below-none 64 (λ scene. cond {A = ℕ} (has set scene && (has (slice_index film.casts scene) actor && false)) (slice_index film.days scene * slice_index film.holds actor) 0)
          (λ scene _. none (has set scene) (has (slice_index film.casts scene) actor) (slice_index film.days scene * slice_index film.holds actor)))

  by_scene : (state : StateData) (scene : ℕ) → is_open film state scene ≡ true
      → sum_below 64 (λ actor. each scene actor) ≡ cond {A = ℕ} (has set scene && is_open film state scene) (slice_index film.days scene * sum_over film.holds (meet (slice_index film.casts scene) group)) 0
  by_scene state scene unpaid =
      by_test (has set scene)
      ∙ ap (λ b. cond {A = ℕ} (has set scene && b) (slice_index film.days scene * sum_over film.holds (meet (slice_index film.casts scene) group)) 0) (sym unpaid)
    where
      one : (b : Bool) (d h : ℕ) → cond {A = ℕ} (true && b) (d * h) 0 ≡ d * cond {A = ℕ} b h 0
      one true d h = refl
      one false d h = omega arith

      by_test : (b : Bool) → sum_below 64 (λ actor. cond {A = ℕ} (b && (has (slice_index film.casts scene) actor && has group actor)) (slice_index film.days scene * slice_index film.holds actor) 0)
          ≡ cond {A = ℕ} (b && true) (slice_index film.days scene * sum_over film.holds (meet (slice_index film.casts scene) group)) 0
      by_test true =
          sum_below-ext 64 (λ actor. cond {A = ℕ} (true && (has (slice_index film.casts scene) actor && has group actor)) (slice_index film.days scene * slice_index film.holds actor) 0)
          (λ actor. slice_index film.days scene * cond {A = ℕ} (has (meet (slice_index film.casts scene) group) actor) (slice_index film.holds actor) 0) (λ actor _.
          one (has (slice_index film.casts scene) actor && has group actor) (slice_index film.days scene) (slice_index film.holds actor)
          ∙ ap (λ b. slice_index film.days scene * cond {A = ℕ} b (slice_index film.holds actor) 0) (sym (has-meet (slice_index film.casts scene) group actor)))
          ∙ sum_below-scale 64 (slice_index film.days scene) (λ actor. cond {A = ℕ} (has (meet (slice_index film.casts scene) group) actor) (slice_index film.holds actor) 0)
          ∙ ap (λ (n : ℕ). slice_index film.days scene * n) (sym (sum_over_is film.holds (meet (slice_index film.casts scene) group)))
      by_test false = sum_below-none 64 (λ actor. cond {A = ℕ} (false && (has (slice_index film.casts scene) actor && has group actor)) (slice_index film.days scene * slice_index film.holds actor) 0) (λ actor _. refl)

  -- all scenes are open at first
  pub open_first : (newcomers scene : ℕ) → is_open film (at_first newcomers) scene ≡ true
  open_first newcomers scene = is_none film (union 0 0) scene (λ i works there. empty_has i (both (has 0 i) (sym (has-union 0 0 i) ∙ there)))
    where
      both : (b : Bool) → (b || b) ≡ true → b ≡ true
      both true is = refl
      both false is = is

  pub own_is : (newcomers : ℕ) (actors : List ℕ) → actors ≡ members group → sum_by own actors ≡ own_pay film set group (at_first newcomers)
  own_is newcomers actors all =
      ap (sum_by own) (all ∙ members_is group) ∙ sum_kept own (has group) 64
      ∙ sum_below-ext 64 (λ actor. cond {A = ℕ} (has group actor) (own actor) 0) (λ actor. sum_below 64 (λ scene. each scene actor)) (λ actor _. by_actor actor)
      ∙ sum_below-swap 64 64 (λ actor scene. each scene actor)
      ∙ sum_below-ext 64 (λ scene. sum_below 64 (λ actor. each scene actor))
      (λ scene. cond {A = ℕ} (has set scene && is_open film (at_first newcomers) scene) (slice_index film.days scene * sum_over film.holds (meet (slice_index film.casts scene) group)) 0)
      (λ scene _. by_scene (at_first newcomers) scene (open_first newcomers scene))

  -- the value, when what was added is taken off
  pub value_from : (newcomers gross : ℕ) → IsSet group → IsSet newcomers → IsGross film set group (at_first newcomers) gross
      → gross ≡ arrivals_value film set group newcomers + own_pay film set group (at_first newcomers)
  value_from newcomers gross small fits total =
      let value = value_is_least film set group small newcomers fits in
      let more = total.is_least.least value.attained.0 value.attained.1 in
      let less = value.least total.is_least.attained.0 total.is_least.attained.1 in
      omega (arith, total.added, more, less, value.attained.2, total.is_least.attained.2)
