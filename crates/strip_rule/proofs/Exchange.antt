-- To shoot a scene that rules out another before it costs no more.
use Rattle.std.proofs.Common.{◌≡◌, ◌≢◌, ℕ, ◌+◌, ◌*◌, ◌≤◌, ◌⊎◌, true, false, not, List, [], ◌∷◌, length, slice_index, inl, inr, sym, ap, ◌∙◌, subst, arith}
use Rattle.std.proofs.Math.Nat.{mul-le-mul_left}
use Rattle.std.proofs.lemmas.Bool.{cases_Bool, and_from}
use Rattle.std.proofs.lemmas.Bool.Decides.{eqb_tells}
use Rattle.strip_mask.specs.Set.{has, without, minus, sum_over}
use Rattle.strip_mask.proofs.ByMembers.{has-empty, has-minus, has_from_minus, has-without_same, has-without_other, has_from_without, empty_from, without_swap, still_out}
use Rattle.strip_mask.proofs.Below.{LiesBelow-without}
use Rattle.strip_mask.proofs.Totals.{sum_over_mono, sum_over-empty}
use Rattle.strip_model.specs.Film.{FilmData}
use Rattle.strip_model.specs.Pay.{works}
use Rattle.strip_film.specs.Film.{IsFilm, LiesIn}
use Rattle.strip_film.specs.Shoot.{on_location, ready, step_cost}
use Rattle.strip_film.specs.Finish.{EachOnce, steps_cost}
use Rattle.strip_film.specs.Located.{WorksInside, WorksOutside}
use Rattle.strip_film.proofs.ByPairs.{ready_is, is_ready}
use Rattle.strip_film.proofs.Lists.{ready_there}
use Rattle.strip_film.proofs.Located.{location_by_scenes}
use Rattle.strip_rule.specs.Rule.{rules_out}
use Rattle.strip_rule.proofs.Fits.{Ruling, ruling_is}

-- what a scene's own cast gets for its days
abbrev own_cost : FilmData → ℕ → ℕ
own_cost film scene = slice_index film.days scene * sum_over film.rates (slice_index film.casts scene)

own_le_step : (film : FilmData) (set scene : ℕ) → own_cost film scene ≤ step_cost film set scene
own_le_step film set scene = mul-le-mul_left (slice_index film.days scene) (omega arith)

-- where nobody waits, the step costs no more than that
step_le_own : (film : FilmData) (set scene : ℕ) → ((actor : ℕ) → has (on_location film set) actor ≡ true → works film actor scene ≡ true)
    → step_cost film set scene ≤ own_cost film scene
step_le_own film set scene work =
    let cast : ℕ = slice_index film.casts scene in
    let nobody : minus (on_location film set) cast ≡ 0 = empty_from (minus (on_location film set) cast) (λ actor. elim (cases_Bool (has (minus (on_location film set) cast) actor)) [
      | inl waits ↦ absurd (let parts = has_from_minus (on_location film set) cast actor waits in
          let e : has cast actor ≡ true = work actor parts.0 in let f : has cast actor ≡ false = parts.1 in cc)
      | inr none ↦ none
    ]) in
    let nothing : sum_over film.holds (minus (on_location film set) cast) ≡ 0 = ap (sum_over film.holds) nobody ∙ sum_over-empty film.holds in
    mul-le-mul_left (slice_index film.days scene) (omega (arith, nothing))

-- a step costs no more where no one else waits
step_le_step : (film : FilmData) (few many scene : ℕ)
    → ((actor : ℕ) → has (on_location film few) actor ≡ true → works film actor scene ≡ false → has (on_location film many) actor ≡ true)
    → step_cost film few scene ≤ step_cost film many scene
step_le_step film few many scene within =
    let cast : ℕ = slice_index film.casts scene in
    let waiting : sum_over film.holds (minus (on_location film few) cast) ≤ sum_over film.holds (minus (on_location film many) cast)
    = sum_over_mono film.holds (minus (on_location film few) cast) (minus (on_location film many) cast) (λ actor member.
    let parts = has_from_minus (on_location film few) cast actor member in
    has-minus (on_location film many) cast actor ∙ and_from (has (on_location film many) actor) (not (has cast actor)) (within actor parts.0 parts.1) (ap not parts.1)) in
    mul-le-mul_left (slice_index film.days scene) (omega (arith, waiting))

-- a ready scene stays so when another is shot
ready_still : (film : FilmData) (set x scene : ℕ) → has (ready film set) scene ≡ true → x ≢ scene → has (ready film (without set x)) scene ≡ true
ready_still film set x scene member other =
    let before = ready_is film set scene member in
    is_ready film (without set x) scene (record {
      member = has-without_other set x scene other ∙ before.member;
      first = λ earlier precedes. still_out set x earlier (before.first earlier precedes);
    })

module _ (film : FilmData) (is : IsFilm film) where
  -- who is on location when one scene more was shot was so before, or works in that scene
  located_before : (set x actor : ℕ) → LiesIn film set → has (on_location film (without set x)) actor ≡ true
      → (has (on_location film set) actor ≡ true) ⊎ (works film actor x ≡ true)
  located_before set x actor lies there =
      let both : WorksInside film (without set x) actor × WorksOutside film (without set x) actor
      = (location_by_scenes film (without set x) actor is (LiesBelow-without (length film.casts) set x lies)).0 there in
      elim (eqb_tells x both.1.0) [
        | inl same ↦ inr (subst (λ (i : ℕ). works film actor i ≡ true) (sym same.1) both.1.3)
        | inr other ↦ inl ((location_by_scenes film set actor is lies).1 (
          (both.0.0, (has_from_without set x both.0.0 both.0.1).1, both.0.2),
          (both.1.0, both.1.1, sym (has-without_other set x both.1.0 other.1) ∙ both.1.2, both.1.3),
        ))
      ]

  -- the whole cast of the scene worked in scenes that were shot
  abbrev WasCalled : ℕ → ℕ → Type 0
  WasCalled set scene = (actor : ℕ) → works film actor scene ≡ true → WorksOutside film set actor

  still_outside : (set x actor : ℕ) → WorksOutside film set actor → WorksOutside film (without set x) actor
  still_outside set x actor (scene, known, out, working) = (scene, known, still_out set x scene out, working)

  -- so to shoot it first spares at least what it costs with nobody waiting
  abbrev Sparing : ℕ → ℕ → ℕ → Type 0
  Sparing set first cost = (other : List ℕ) × EachOnce film (without set first) other × (steps_cost film (without set first) other + own_cost film first ≤ cost)

  taken_out : (first set : ℕ) (scenes : List ℕ) → LiesIn film set → has set first ≡ true → WasCalled set first → EachOnce film set scenes
      → Sparing set first (steps_cost film set scenes)
  taken_out first set [] lies there called each =
      absurd (let e : has 0 first ≡ true = subst (λ (q : ℕ). has q first ≡ true) each.1 there in let f : has 0 first ≡ false = has-empty first in cc)
  taken_out first set (x ∷ later) lies there called each = elim (eqb_tells x first) [
    | inl same ↦ subst (λ (i : ℕ). Sparing set i (steps_cost film set (x ∷ later))) same.1
        (later, (each.0.1, each.1), omega (arith, own_le_step film set x))
    | inr other ↦ (
        let rest : Sparing (without set x) first (steps_cost film (without set x) later)
        = taken_out first (without set x) later (LiesBelow-without (length film.casts) set x lies) (has-without_other set x first other.1 ∙ there)
        (λ actor working. still_outside set x actor (called actor working)) (each.0.1, each.1) in
        let swap : without (without set x) first ≡ without (without set first) x = without_swap set x first in
        let left : EachOnce film (without (without set first) x) rest.0 = subst (λ (q : ℕ). EachOnce film q rest.0) swap rest.1 in
        let cost : steps_cost film (without (without set first) x) rest.0 + own_cost film first ≤ steps_cost film (without set x) later
        = subst (λ (q : ℕ). steps_cost film q rest.0 + own_cost film first ≤ steps_cost film (without set x) later) swap rest.2 in
        let step : step_cost film (without set first) x ≤ step_cost film set x
        = step_le_step film (without set first) set x (λ actor waits free. elim (located_before set first actor lies waits) [
          | inl before ↦ before
          | inr working ↦ (location_by_scenes film set actor is lies).1 ((first, there, working), called actor working)
        ]) in (
          x ∷ rest.0,
          ((ready_still film set first x each.0.0 (λ same. other.1 (sym same)), left.0), left.1),
          omega (arith, cost, step),
        ))
  ]

  pub exchange : (set first second : ℕ) (later : List ℕ) → LiesIn film set → rules_out film set first second ≡ true → EachOnce film set (second ∷ later)
      → (other : List ℕ) × EachOnce film set (first ∷ other) × (steps_cost film set (first ∷ other) ≤ steps_cost film set (second ∷ later))
  exchange set first second later lies rules each =
      let ruling : Ruling film set first second = ruling_is film set first second rules in
      let apart : second ≢ first = λ same. ruling.other (sym same) in
      let called : WasCalled (without set second) first = λ actor working. elim (ruling.fits.cast actor working) [
        | inl located ↦ still_outside set second actor ((location_by_scenes film set actor is lies).0 located).1
        | inr working_there ↦ (second, lies second (ready_there film set second ruling.second_ready), has-without_same set second, working_there)
      ] in
      let rest : Sparing (without set second) first (steps_cost film (without set second) later)
      = taken_out first (without set second) later (LiesBelow-without (length film.casts) set second lies)
      (has-without_other set second first apart ∙ ready_there film set first ruling.first_ready) called (each.0.1, each.1) in
      let swap : without (without set second) first ≡ without (without set first) second = without_swap set second first in
      let left : EachOnce film (without (without set first) second) rest.0 = subst (λ (q : ℕ). EachOnce film q rest.0) swap rest.1 in
      let cost : steps_cost film (without (without set first) second) rest.0 + own_cost film first ≤ steps_cost film (without set second) later
      = subst (λ (q : ℕ). steps_cost film q rest.0 + own_cost film first ≤ steps_cost film (without set second) later) swap rest.2 in
      let step : step_cost film (without set first) second ≤ step_cost film set second
      = step_le_step film (without set first) set second (λ actor waits free. elim (located_before set first actor lies waits) [
        | inl before ↦ before
        | inr working ↦ elim (ruling.fits.cast actor working) [
          | inl before ↦ before
          | inr busy ↦ absurd (let e : works film actor second ≡ true = busy in let f : works film actor second ≡ false = free in cc)
        ]
      ]) in
      let alone : step_cost film set first ≤ own_cost film first = step_le_own film set first ruling.fits.located in (
        second ∷ rest.0,
        ((ruling.first_ready, (ready_still film set first second ruling.second_ready ruling.other, left.0)), left.1),
        omega (arith, cost, step, alone),
      )
