-- The sum of the steps along an order is its pay.
use Rattle.std.proofs.Common.{◌≡◌, ℕ, ◌+◌, ◌*◌, Bool, true, false, cond, not, ◌&&◌, ◌||◌, eqb, List, [], ◌∷◌, length, Contains, slice_index, inl, inr, refl, sym, ap, ◌∙◌, subst, arith}
use Rattle.std.specs.List.{list_any}
use Rattle.std.proofs.lemmas.Bool.{cases_Bool, or_cases, and_right}
use Rattle.std.proofs.lemmas.Bool.Decides.{eqb_tells}
use Rattle.strip_mask.specs.Set.{IsSet, has, without, minus, sum_over}
use Rattle.strip_mask.specs.Sums.{sum_below}
use Rattle.strip_mask.proofs.ByMembers.{has-without, has-without_same, has-without_other, has-meet, has-minus}
use Rattle.strip_mask.proofs.Below.{has_full, LiesBelow-full, LiesBelow-without, is_set_below}
use Rattle.strip_mask.proofs.Sums.{sum_below-none, sum_below-ext, sum_below-add, sum_below-scale}
use Rattle.strip_mask.proofs.Totals.{sum_over_below}
use Rattle.strip_model.specs.Film.{FilmData}
use Rattle.strip_model.specs.Pay.{works, day_pay, pay_of}
use Rattle.strip_mask.proofs.Agree.{same_test}
use Rattle.std.proofs.Math.Bool.{or-true}
use Rattle.strip_model.proofs.Lists.{any_from, any_is}
use Rattle.strip_film.specs.Film.{IsFilm, LiesIn, all_scenes}
use Rattle.strip_film.specs.Shoot.{cast_of, on_location, step_cost}
use Rattle.strip_film.specs.Finish.{steps_cost}
use Rattle.strip_film.specs.Located.{WorksInside, WorksOutside}
use Rattle.strip_film.proofs.Lists.{AllOnce, has_from_list, list_has}
use Rattle.strip_film.proofs.Casts.{cast_has, has_cast, called_is, is_called, cast_lies}
use Rattle.strip_film.proofs.Located.{waiting_lies}
use Rattle.strip_model.proofs.Walk.{is_paid, paid_after, paid_after-new}

-- who works is paid at his rate, and who waits, called before and working later, at his hold rate
paid_by_tests : (now later called : Bool) (days rate hold : ℕ)
    → days * (cond now rate 0 + cond (((now || later) && called) && not now) hold 0) ≡ cond (now || (called && later)) (days * cond now rate hold) 0
paid_by_tests true later true days rate hold = ap (λ (n : ℕ). days * n) (omega arith)
paid_by_tests true later false days rate hold = ap (λ (n : ℕ). days * n) (omega arith)
paid_by_tests false true true days rate hold = ap (λ (n : ℕ). days * n) (omega arith)
paid_by_tests false true false days rate hold = omega arith
paid_by_tests false false true days rate hold = omega arith
paid_by_tests false false false days rate hold = omega arith

module _ (film : FilmData) (is : IsFilm film) where
  is_set : (set : ℕ) → LiesIn film set → IsSet set
  is_set set lies = is_set_below (length film.casts) set is.scene_count.1 lies

  -- who was called before, while the set remains
  abbrev called : ℕ → ℕ → Bool
  called set actor = has (cast_of film (minus (all_scenes film) set)) actor

  -- whoever works in the next scene is called from then on
  called_next : (set s actor : ℕ) → LiesIn film set → has set s ≡ true → called (without set s) actor ≡ (called set actor || works film actor s)
  called_next set s actor lies there = same_test (called (without set s) actor) (called set actor || works film actor s)
      (λ later. onward (called_is film (without set s) actor later))
      (λ before. elim (or_cases (called set actor) (works film actor s) before) [
        | inl earlier ↦ (let found = called_is film set actor earlier in
            is_called film (without set s) actor is
            (found.0, found.1, has-without set s found.0 ∙ and_right (not (eqb s found.0)) (has set found.0) found.2, found.3))
        | inr now ↦ is_called film (without set s) actor is (s, lies s there, has-without_same set s, now)
      ])
    where
      onward : WorksOutside film (without set s) actor → (called set actor || works film actor s) ≡ true
      onward (x, known, gone, working) = elim (eqb_tells s x) [
        | inl same ↦ rw (subst (λ (i : ℕ). works film actor i ≡ true) (sym same.1) working) (or-true (called set actor))
        | inr other ↦ (let earlier : called set actor ≡ true = is_called film set actor is (x, known, sym (has-without_other set s x other.1) ∙ gone, working) in
            rw earlier refl)
      ]

  -- who works in a scene of the set works in the next scene or later
  working_in : (set s : ℕ) (later : List ℕ) (actor : ℕ) → LiesIn film set → AllOnce set (s ∷ later)
      → has (cast_of film set) actor ≡ (works film actor s || list_any (works film actor) later)
  working_in set s later actor lies each = same_test (has (cast_of film set) actor) (list_any (works film actor) (s ∷ later))
      (λ some. onward (cast_has film set actor some))
      (λ some. back (any_is (works film actor) (s ∷ later) some))
    where
      onward : WorksInside film set actor → list_any (works film actor) (s ∷ later) ≡ true
      onward (x, there, working) = any_from (works film actor) (s ∷ later) x (list_has set (s ∷ later) x each there) working

      back : (x : ℕ) × Contains (s ∷ later) x × (works film actor x ≡ true) → has (cast_of film set) actor ≡ true
      back (x, there, working) = has_cast film set actor (is_set set lies) (x, has_from_list set (s ∷ later) x each.0 there, working)

  -- who waits on the days of the next scene
  waiting_in : (set s : ℕ) (later : List ℕ) (actor : ℕ) → LiesIn film set → AllOnce set (s ∷ later)
      → has (minus (on_location film set) (slice_index film.casts s)) actor
      ≡ (((works film actor s || list_any (works film actor) later) && called set actor) && not (works film actor s))
  waiting_in set s later actor lies each =
      has-minus (on_location film set) (slice_index film.casts s) actor
      ∙ ap (λ (b : Bool). b && not (works film actor s))
      (has-meet (cast_of film set) (cast_of film (minus (all_scenes film) set)) actor
      ∙ ap (λ (b : Bool). b && called set actor) (working_in set s later actor lies each))

  -- what an actor gets for the days of the next scene
  abbrev paid_for : ℕ → ℕ → List ℕ → ℕ → ℕ
  paid_for set s later actor = cond (is_paid (called set actor) (works film actor) s later) (day_pay film actor s) 0

  -- a step by actors
  step_by_actors : (set s : ℕ) (later : List ℕ) → LiesIn film set → AllOnce set (s ∷ later)
      → step_cost film set s ≡ sum_below (length film.rates) (paid_for set s later)
  step_by_actors set s later lies each =
      let cast : ℕ = slice_index film.casts s in
      let waiting : ℕ = minus (on_location film set) cast in
      let days : ℕ = slice_index film.days s in
      let working_pay : ℕ → ℕ = λ actor. cond (has cast actor) (slice_index film.rates actor) 0 in
      let waiting_pay : ℕ → ℕ = λ actor. cond (has waiting actor) (slice_index film.holds actor) 0 in
      ap (λ (n : ℕ). days * (n + sum_over film.holds waiting))
      (sum_over_below film.rates cast (length film.rates) is.actor_count (cast_lies film s is))
      ∙ ap (λ (n : ℕ). days * (sum_below (length film.rates) working_pay + n))
      (sum_over_below film.holds waiting (length film.rates) is.actor_count (waiting_lies film set cast is))
      ∙ ap (λ (n : ℕ). days * n) (sym (sum_below-add (length film.rates) working_pay waiting_pay))
      ∙ sym (sum_below-scale (length film.rates) days (λ actor. working_pay actor + waiting_pay actor))
      ∙ sum_below-ext (length film.rates) (λ actor. days * (working_pay actor + waiting_pay actor)) (paid_for set s later) (λ actor lt. by_actor actor)
    where
      by_actor : (actor : ℕ) → slice_index film.days s * (cond (works film actor s) (slice_index film.rates actor) 0
          + cond (has (minus (on_location film set) (slice_index film.casts s)) actor) (slice_index film.holds actor) 0) ≡ paid_for set s later actor
      by_actor actor =
          ap (λ (b : Bool). slice_index film.days s * (cond (works film actor s) (slice_index film.rates actor) 0 + cond b (slice_index film.holds actor) 0))
          (waiting_in set s later actor lies each)
          ∙ paid_by_tests (works film actor s) (list_any (works film actor) later) (called set actor)
          (slice_index film.days s) (slice_index film.rates actor) (slice_index film.holds actor)

  -- what an actor gets along a list
  abbrev paid_along : ℕ → List ℕ → ℕ → ℕ
  paid_along set scenes actor = paid_after (called set actor) (works film actor) (day_pay film actor) scenes

  -- the steps along a list, by actors
  steps_by_actors : (set : ℕ) (scenes : List ℕ) → LiesIn film set → AllOnce set scenes
      → steps_cost film set scenes ≡ sum_below (length film.rates) (paid_along set scenes)
  steps_by_actors set [] lies each = sym (sum_below-none (length film.rates) (paid_along set []) (λ actor lt. refl))
  steps_by_actors set (s ∷ later) lies each =
      let rest : steps_cost film (without set s) later ≡ sum_below (length film.rates) (paid_along (without set s) later)
      = steps_by_actors (without set s) later (LiesBelow-without (length film.casts) set s lies) (each.0.1, each.1) in
      ap (λ (n : ℕ). n + steps_cost film (without set s) later) (step_by_actors set s later lies each)
      ∙ ap (λ (n : ℕ). sum_below (length film.rates) (paid_for set s later) + n) rest
      ∙ sym (sum_below-add (length film.rates) (paid_for set s later) (paid_along (without set s) later))
      ∙ sum_below-ext (length film.rates) (λ actor. paid_for set s later actor + paid_along (without set s) later actor) (paid_along set (s ∷ later)) (λ actor lt.
      ap (λ (b : Bool). paid_for set s later actor + paid_after b (works film actor) (day_pay film actor) later) (called_next set s actor lies each.0.0))

  -- at first nobody was called
  nobody_called : (actor : ℕ) → called (all_scenes film) actor ≡ false
  nobody_called actor = elim (cases_Bool (called (all_scenes film) actor)) [
    | inl some ↦ absurd (let found = called_is film (all_scenes film) actor some in
        let e : has (all_scenes film) found.0 ≡ true = has_full (length film.casts) found.0 found.1 in
        let f : has (all_scenes film) found.0 ≡ false = found.2 in cc)
    | inr none ↦ none
  ]

  -- the steps along a list that has each scene once are its pay
  pub steps_are_pay : (order : List ℕ) → AllOnce (all_scenes film) order → steps_cost film (all_scenes film) order ≡ pay_of film order
  steps_are_pay order each =
      steps_by_actors (all_scenes film) order (LiesBelow-full (length film.casts)) each
      ∙ sum_below-ext (length film.rates) _ _ (λ actor lt.
      ap (λ (b : Bool). paid_after b (works film actor) (day_pay film actor) order) (nobody_called actor)
      ∙ paid_after-new (works film actor) (day_pay film actor) order)
