-- What the actors of a group are paid for waiting along a list, one actor at a time.
use Rattle.std.proofs.Common.{◌≡◌, ℕ, ◌+◌, ◌*◌, Bool, true, false, cond, not, ◌&&◌, eqb, List, [], ◌∷◌, ◌++◌, slice_index, inl, inr, refl, sym, ap, ◌∙◌, arith}
use Rattle.std.proofs.lemmas.Bool.{cases_Bool, false_from_ne_true}
use Rattle.strip_mask.specs.Set.{IsSet, has, meet, minus, without, sum_over}
use Rattle.strip_mask.proofs.ByMembers.{has-meet, has-minus, has-without, has-without_other, has_from_meet, has_from_minus, has_from_without, empty_from, same_has, IsSet-meet, IsSet-minus, IsSet-without}
use Rattle.strip_mask.proofs.Totals.{sum_over-without, sum_over-empty}
use Rattle.std.proofs.lemmas.Bool.Decides.{eqb_tells}
use Rattle.strip_model.specs.Film.{FilmData}
use Rattle.strip_model.specs.Pay.{works}
use Rattle.strip_film.specs.Shoot.{cast_of}
use Rattle.strip_film.specs.Finish.{rest_after}
use Rattle.strip_film.proofs.Casts.{cast_has, has_cast}
use Rattle.strip_bound.specs.Waiting.{wait_pay}

-- whether the actor has a scene to come and doesn't work in this one
abbrev pub is_idle : FilmData → ℕ → ℕ → ℕ → Bool
is_idle film actor set scene = has (cast_of film set) actor && not (works film actor scene)

-- the days that an actor waits along a list
abbrev pub waits : FilmData → ℕ → ℕ → List ℕ → ℕ
waits film actor set [] = 0
waits film actor set (scene ∷ scenes) = cond (is_idle film actor set scene) (slice_index film.days scene) 0 + waits film actor (without set scene) scenes

-- nobody of the group has a scene to come
abbrev pub AreGone : FilmData → ℕ → ℕ → Type 0
AreGone film group set = (actor : ℕ) → has group actor ≡ true → has (cast_of film set) actor ≡ true → ⊥

and_out : (x y z w : Bool) → (((x && y) && z) && w) ≡ (x && ((y && z) && w))
and_out true y z w = refl
and_out false y z w = refl

-- a sum over a set as that without one number and its value
sum_over-split : (v : List ℕ) (set i : ℕ) → IsSet set → sum_over v set ≡ sum_over v (without set i) + cond (has set i) (slice_index v i) 0
sum_over-split v set i is = elim (cases_Bool (has set i)) [
  | inl there ↦ (let value : cond (has set i) (slice_index v i) 0 ≡ slice_index v i = ap (λ b. cond b (slice_index v i) 0) there in
      omega (arith, value, sum_over-without v set i is there))
  | inr absent ↦ (let value : cond (has set i) (slice_index v i) 0 ≡ 0 = ap (λ b. cond b (slice_index v i) 0) absent in
      let same : sum_over v (without set i) ≡ sum_over v set = ap (sum_over v) (same_has (without set i) set (λ j. elim (eqb_tells i j) [
        | inl at ↦ has-without set i j ∙ ap (λ b. not b && has set j) at.0 ∙ sym (ap (has set) (sym at.1) ∙ absent)
        | inr other ↦ has-without_other set i j other.1
      ])) in
      omega (arith, value, same))
]

by_days : (days rest now hold waits : ℕ) (b : Bool) → days * (now + cond b hold 0) + (rest + hold * waits) ≡ (days * now + rest) + hold * (cond b days 0 + waits)
by_days days rest now hold waits true = grind arith
by_days days rest now hold waits false = grind arith

module _ (film : FilmData) where
  -- those of a group who wait on the days of a scene
  abbrev pub idle_of : ℕ → ℕ → ℕ → ℕ
  idle_of group set scene = minus (meet group (cast_of film set)) (slice_index film.casts scene)

  has-idle_of : (group set scene i : ℕ) → has (idle_of group set scene) i ≡ ((has group i && has (cast_of film set) i) && not (works film i scene))
  has-idle_of group set scene i =
      has-minus (meet group (cast_of film set)) (slice_index film.casts scene) i
      ∙ ap (λ b. b && not (works film i scene)) (has-meet group (cast_of film set) i)

  pub has_from_idle : (group set scene i : ℕ) → has (idle_of group set scene) i ≡ true
      → (has group i ≡ true) × (has (cast_of film set) i ≡ true) × (works film i scene ≡ false)
  has_from_idle group set scene i there =
      let parts = has_from_minus (meet group (cast_of film set)) (slice_index film.casts scene) i there in
      let both = has_from_meet group (cast_of film set) i parts.0 in (both.0, both.1, parts.1)

  -- who waits of a group, as of the others and one actor
  idle_without : (group actor set scene : ℕ) → without (idle_of group set scene) actor ≡ idle_of (without group actor) set scene
  idle_without group actor set scene = same_has (without (idle_of group set scene) actor) (idle_of (without group actor) set scene) (λ i.
      has-without (idle_of group set scene) actor i
      ∙ ap (λ b. not (eqb actor i) && b) (has-idle_of group set scene i)
      ∙ sym (and_out (not (eqb actor i)) (has group i) (has (cast_of film set) i) (not (works film i scene)))
      ∙ sym (has-idle_of (without group actor) set scene i
      ∙ ap (λ b. (b && has (cast_of film set) i) && not (works film i scene)) (has-without group actor i)))

  idle_pay-split : (group actor set scene : ℕ) → IsSet group → has group actor ≡ true
      → sum_over film.holds (idle_of group set scene)
      ≡ sum_over film.holds (idle_of (without group actor) set scene) + cond (is_idle film actor set scene) (slice_index film.holds actor) 0
  idle_pay-split group actor set scene is there =
      let idle : ℕ = idle_of group set scene in
      let hold : ℕ = slice_index film.holds actor in
      let test : has idle actor ≡ is_idle film actor set scene
      = has-idle_of group set scene actor ∙ ap (λ b. (b && has (cast_of film set) actor) && not (works film actor scene)) there in
      sum_over-split film.holds idle actor (IsSet-minus (meet group (cast_of film set)) (slice_index film.casts scene) (IsSet-meet group (cast_of film set) is))
      ∙ ap (λ (q : ℕ). sum_over film.holds q + cond (has idle actor) hold 0) (idle_without group actor set scene)
      ∙ ap (λ b. sum_over film.holds (idle_of (without group actor) set scene) + cond b hold 0) test

  -- a group's waiting, as that of the others and that of one actor
  pub wait_pay-split : (group actor set : ℕ) (scenes : List ℕ) → IsSet group → has group actor ≡ true
      → wait_pay film group set scenes ≡ wait_pay film (without group actor) set scenes + slice_index film.holds actor * waits film actor set scenes
  wait_pay-split group actor set [] is there = grind arith
  wait_pay-split group actor set (s ∷ scenes) is there =
      let days : ℕ = slice_index film.days s in
      let hold : ℕ = slice_index film.holds actor in
      let idle_pay : ℕ = sum_over film.holds (idle_of (without group actor) set s) in
      let others : ℕ = wait_pay film (without group actor) (without set s) scenes in
      ap (λ (n : ℕ). days * n + wait_pay film group (without set s) scenes) (idle_pay-split group actor set s is there)
      ∙ ap (λ (n : ℕ). days * (idle_pay + cond (is_idle film actor set s) hold 0) + n) (wait_pay-split group actor (without set s) scenes is there)
      ∙ by_days days others idle_pay hold (waits film actor (without set s) scenes) (is_idle film actor set s)

  -- who has a scene to come has one in a larger set too
  pub cast_without : (set s actor : ℕ) → IsSet set → has (cast_of film (without set s)) actor ≡ true → has (cast_of film set) actor ≡ true
  cast_without set s actor is there =
      let found = cast_has film (without set s) actor there in
      has_cast film set actor is (found.0, (has_from_without set s found.0 found.1).1, found.2)

  pub gone_without : (group set s : ℕ) → IsSet set → AreGone film group set → AreGone film group (without set s)
  gone_without group set s is gone actor member there = gone actor member (cast_without set s actor is there)

  -- who is gone isn't paid
  pub wait_pay-gone : (group set : ℕ) (scenes : List ℕ) → IsSet set → AreGone film group set → wait_pay film group set scenes ≡ 0
  wait_pay-gone group set [] is gone = refl
  wait_pay-gone group set (s ∷ scenes) is gone =
      let days : ℕ = slice_index film.days s in
      let nobody : idle_of group set s ≡ 0 = empty_from (idle_of group set s) (λ i. false_from_ne_true (has (idle_of group set s) i) (λ there.
      let idle = has_from_idle group set s i there in gone i idle.0 idle.1)) in
      let nothing : sum_over film.holds (idle_of group set s) ≡ 0 = ap (sum_over film.holds) nobody ∙ sum_over-empty film.holds in
      ap (λ (n : ℕ). days * n + wait_pay film group (without set s) scenes) nothing
      ∙ ap (λ (n : ℕ). days * 0 + n) (wait_pay-gone group (without set s) scenes (IsSet-without set s is) (gone_without group set s is gone))
      ∙ omega arith

  -- ---- two lists, one after the other

  pub wait_pay-append : (group set : ℕ) (xs ys : List ℕ) → wait_pay film group set (xs ++ ys) ≡ wait_pay film group set xs + wait_pay film group (rest_after set xs) ys
  wait_pay-append group set [] ys = omega arith
  wait_pay-append group set (s ∷ xs) ys =
      let rest : wait_pay film group (without set s) (xs ++ ys) ≡ wait_pay film group (without set s) xs + wait_pay film group (rest_after (without set s) xs) ys
      = wait_pay-append group (without set s) xs ys in
      omega (arith, rest)

  pub waits-append : (actor set : ℕ) (xs ys : List ℕ) → waits film actor set (xs ++ ys) ≡ waits film actor set xs + waits film actor (rest_after set xs) ys
  waits-append actor set [] ys = omega arith
  waits-append actor set (s ∷ xs) ys =
      let rest : waits film actor (without set s) (xs ++ ys) ≡ waits film actor (without set s) xs + waits film actor (rest_after (without set s) xs) ys
      = waits-append actor (without set s) xs ys in
      omega (arith, rest)
