-- Some list has a group wait for no more than its extra.
use Rattle.std.proofs.Common.{◌≡◌, ℕ, zero, suc, ◌+◌, ◌*◌, ◌≤◌, Bool, true, false, cond, not, eqb, List, [], ◌∷◌, ◌++◌, slice_index, inl, inr, refl, sym, ap, ◌∙◌, subst, arith}
use Rattle.std.proofs.lemmas.Bool.{and_parts, and_right, cases_Bool, and_from}
use Rattle.std.proofs.lemmas.Bool.Decides.{eqb_tells}
use Rattle.std.proofs.Math.Nat.{mul-le-mul_left}
use Rattle.strip_mask.specs.Set.{IsSet, has, meet, without, size}
use Rattle.strip_mask.proofs.ByMembers.{has_from_without, has-without_other, has-empty, IsSet-without, some_member}
use Rattle.strip_mask.proofs.Sizes.{size-without, size-empty, empty_from_size}
use Rattle.strip_model.specs.Film.{FilmData}
use Rattle.strip_model.specs.Pay.{works}
use Rattle.strip_film.specs.Shoot.{cast_of}
use Rattle.strip_film.specs.Finish.{rest_after}
use Rattle.strip_film.proofs.Casts.{cast_has}
use Rattle.strip_film.proofs.Lists.{AllRemained, AllOnce, rest_after-parts}
use Rattle.strip_group.specs.Group.{is_waited, waited_days, group_extra}
use Rattle.strip_bound.specs.Bounds.{group_data}
use Rattle.strip_bound.specs.Waiting.{wait_pay}
use Rattle.strip_mask.proofs.Totals.{cond_le}
use Rattle.strip_bound.proofs.Members.{test_from_shared}
use Rattle.strip_bound.proofs.Extra.{waited_days-without, extra_with_last, extra_attained}
use Rattle.strip_bound.proofs.Waits.{AreGone, is_idle, waits, wait_pay-split, wait_pay-append, wait_pay-gone, waits-append, cast_without}

-- each scene of the list has someone of the group
abbrev Meets : FilmData → ℕ → List ℕ → Type 0
Meets film group [] = Unit {0}
Meets film group (scene ∷ scenes) = ((actor : ℕ) × (has group actor ≡ true) × (works film actor scene ≡ true)) × Meets film group scenes

-- the actor works in each scene of the list
abbrev WorksThrough : FilmData → ℕ → List ℕ → Type 0
WorksThrough film actor [] = Unit {0}
WorksThrough film actor (scene ∷ scenes) = (works film actor scene ≡ true) × WorksThrough film actor scenes

-- ---- lists of what remained

AllRemained-append : (set : ℕ) (xs ys : List ℕ) → AllRemained set xs → AllRemained (rest_after set xs) ys → AllRemained set (xs ++ ys)
AllRemained-append set [] ys first then = then
AllRemained-append set (x ∷ xs) ys first then = (first.0, AllRemained-append (without set x) xs ys first.1 then)

IsSet-rest_after : (set : ℕ) (xs : List ℕ) → IsSet set → IsSet (rest_after set xs)
IsSet-rest_after set [] is = is
IsSet-rest_after set (x ∷ xs) is = IsSet-rest_after (without set x) xs (IsSet-without set x is)

-- a list of all that remains
all_once : (n set : ℕ) → size set ≡ n → IsSet set → (scenes : List ℕ) × AllOnce set scenes
all_once zero set count is = ([], (tt, empty_from_size set is count))
all_once (suc n) set count is =
    let some = some_member set is (λ none. let e : size set ≡ 0 = ap size none ∙ size-empty in omega (arith, e, count)) in
    let fewer : size (without set some.0) + 1 ≡ size set = size-without set some.0 is some.2 in
    let rest = all_once n (without set some.0) (omega (arith, fewer, count)) (IsSet-without set some.0 is) in
    (some.0 ∷ rest.0, ((some.2, rest.1.0), rest.1.1))

module _ (film : FilmData) where
  -- who is gone stays away
  gone_after : (group set : ℕ) (xs : List ℕ) → IsSet set → AreGone film group set → AreGone film group (rest_after set xs)
  gone_after group set [] is gone = gone
  gone_after group set (x ∷ xs) is gone =
      gone_after group (without set x) xs (IsSet-without set x is) (λ actor member there. gone actor member (cast_without film set x actor is there))

  Meets-wider : (a b : ℕ) (xs : List ℕ) → ((i : ℕ) → has a i ≡ true → has b i ≡ true) → Meets film a xs → Meets film b xs
  Meets-wider a b [] more meets = tt
  Meets-wider a b (x ∷ xs) more meets = ((meets.0.0, more meets.0.0 meets.0.1, meets.0.2), Meets-wider a b xs more meets.1)

  Meets-append : (group : ℕ) (xs ys : List ℕ) → Meets film group xs → Meets film group ys → Meets film group (xs ++ ys)
  Meets-append group [] ys first then = then
  Meets-append group (x ∷ xs) ys first then = (first.0, Meets-append group xs ys first.1 then)

  Meets-by_one : (group actor : ℕ) (xs : List ℕ) → has group actor ≡ true → WorksThrough film actor xs → Meets film group xs
  Meets-by_one group actor [] member working = tt
  Meets-by_one group actor (x ∷ xs) member working = ((actor, member, working.0), Meets-by_one group actor xs member working.1)

  -- the scenes of an actor, until he is gone
  his_scenes : (n actor set : ℕ) → size set ≡ n → IsSet set
      → (scenes : List ℕ) × AllRemained set scenes × WorksThrough film actor scenes × (has (cast_of film (rest_after set scenes)) actor ≡ true → ⊥)
  his_scenes zero actor set count is = (
    [],
    tt,
    tt,
    λ there. let found = cast_has film set actor there in
        let e : has 0 found.0 ≡ true = subst (λ (q : ℕ). has q found.0 ≡ true) (empty_from_size set is count) found.1 in
        let f : has 0 found.0 ≡ false = has-empty found.0 in cc,
  )
  his_scenes (suc n) actor set count is = elim (cases_Bool (has (cast_of film set) actor)) [
    | inl there ↦ (let found = cast_has film set actor there in
        let fewer : size (without set found.0) + 1 ≡ size set = size-without set found.0 is found.1 in
        let rest = his_scenes n actor (without set found.0) (omega (arith, fewer, count)) (IsSet-without set found.0 is) in
        (found.0 ∷ rest.0, (found.1, rest.1), (found.2, rest.2), rest.3))
    | inr gone ↦ ([], tt, tt, λ there. cc)
  ]

  -- an actor doesn't wait while he works
  waits_through : (actor set : ℕ) (xs : List ℕ) → WorksThrough film actor xs → waits film actor set xs ≡ 0
  waits_through actor set [] working = refl
  waits_through actor set (s ∷ xs) working =
      let busy : is_idle film actor set s ≡ false = and_right (has (cast_of film set) actor) (not (works film actor s)) (ap not working.0) in
      let here : cond (is_idle film actor set s) (slice_index film.days s) 0 ≡ 0 = ap (λ b. cond b (slice_index film.days s) 0) busy in
      omega (arith, here, waits_through actor (without set s) xs working.1)

  -- along scenes of the others he waits on their days at most
  waits_on_others : (others actor set : ℕ) (xs : List ℕ) → IsSet set → AllRemained set xs → Meets film others xs
      → waits film actor set xs ≤ waited_days (group_data film) set others actor
  waits_on_others others actor set [] is remained meets = omega arith
  waits_on_others others actor set (s ∷ xs) is remained meets =
      let waited : Bool = is_waited (group_data film) others actor s in
      let rest : waits film actor (without set s) xs ≤ waited_days (group_data film) (without set s) others actor
      = waits_on_others others actor (without set s) xs (IsSet-without set s is) remained.1 meets.1 in
      let here : cond (is_idle film actor set s) (slice_index film.days s) 0 ≤ cond waited (slice_index film.days s) 0
      = cond_le (is_idle film actor set s) waited (slice_index film.days s) (λ idle.
      and_from (not (eqb (meet (slice_index film.casts s) others) 0)) (not (works film actor s))
      (test_from_shared (slice_index film.casts s) others meets.0.0 meets.0.2 meets.0.1)
      (and_parts (has (cast_of film set) actor) (not (works film actor s)) idle).1) in
      omega (arith, rest, here, waited_days-without (group_data film) set s others actor is remained.0)

  -- the scenes of a group, in an order that has it wait for its extra at most
  abbrev GroupScenes : ℕ → ℕ → Type 0
  GroupScenes group set = (scenes : List ℕ) × AllRemained set scenes × Meets film group scenes × AreGone film group (rest_after set scenes)
      × (wait_pay film group set scenes ≤ group_extra (group_data film) set group)

  -- the scenes of the others, and then those of who leaves last
  with_last : (group last set : ℕ) → IsSet group → IsSet set → has group last ≡ true
      → group_extra (group_data film) set group ≡ extra_with_last (group_data film) set group last
      → GroupScenes (without group last) set → GroupScenes group set
  with_last group last set is within member extra (first, remained, meets, gone, pay) =
      let others : ℕ = without group last in
      let rest : ℕ = rest_after set first in
      let fits : IsSet rest = IsSet-rest_after set first within in
      let his = his_scenes (size rest) last rest refl fits in
      let hold : ℕ = slice_index film.holds last in
      let days : ℕ = waited_days (group_data film) set others last in
      let unpaid : wait_pay film others rest his.0 ≡ 0 = wait_pay-gone film others rest his.0 fits gone in
      let others_pay : wait_pay film others set (first ++ his.0) ≤ group_extra (group_data film) set others
      = omega (arith, wait_pay-append film others set first his.0, unpaid, pay) in
      let his_days : waits film last set (first ++ his.0) ≤ days
      = omega (arith, waits-append film last set first his.0, waits_through last rest his.0 his.2, waits_on_others others last set first within remained meets) in
      let his_pay : hold * waits film last set (first ++ his.0) ≤ hold * days = mul-le-mul_left hold his_days in (
        first ++ his.0,
        AllRemained-append set first his.0 remained his.1,
        Meets-append group first his.0 (Meets-wider others group first (λ i there. (has_from_without group last i there).1) meets) (Meets-by_one group last his.0 member his.2),
        (λ actor inside there.
            let later : has (cast_of film (rest_after rest his.0)) actor ≡ true = subst (λ (q : ℕ). has (cast_of film q) actor ≡ true) (rest_after-parts set first his.0) there in
            elim (eqb_tells last actor) [
              | inl same ↦ his.3 (subst (λ (i : ℕ). has (cast_of film (rest_after rest his.0)) i ≡ true) (sym same.1) later)
              | inr other ↦ gone_after others rest his.0 fits gone actor (has-without_other group last actor other.1 ∙ inside) later
            ]),
        omega (arith, extra, wait_pay-split film group last set (first ++ his.0) is member, others_pay, his_pay),
      )

  group_scenes : (n group set : ℕ) → size group ≡ n → IsSet group → IsSet set → GroupScenes group set
  group_scenes zero group set count is within = (
    [],
    tt,
    tt,
    (λ actor inside there.
        let e : has 0 actor ≡ true = subst (λ (q : ℕ). has q actor ≡ true) (empty_from_size group is count) inside in
        let f : has 0 actor ≡ false = has-empty actor in cc),
    omega arith,
  )
  group_scenes (suc n) group set count is within =
      let some = some_member group is (λ none. let e : size group ≡ 0 = ap size none ∙ size-empty in omega (arith, e, count)) in
      let found = extra_attained (group_data film) set group some.0 is some.2 in
      let fewer : size (without group found.0) + 1 ≡ size group = size-without group found.0 is found.1 in
      with_last group found.0 set is within found.1 found.2
      (group_scenes n (without group found.0) set (omega (arith, fewer, count)) (IsSet-without group found.0 is) within)

  -- some list has no more
  pub extra_is_attained : (group set : ℕ) → IsSet group → IsSet set
      → (scenes : List ℕ) × AllOnce set scenes × (wait_pay film group set scenes ≤ group_extra (group_data film) set group)
  extra_is_attained group set is within =
      let by = group_scenes (size group) group set refl is within in
      let rest : ℕ = rest_after set by.0 in
      let fits : IsSet rest = IsSet-rest_after set by.0 within in
      let later = all_once (size rest) rest refl fits in (
        by.0 ++ later.0,
        (AllRemained-append set by.0 later.0 by.1 later.1.0, rest_after-parts set by.0 later.0 ∙ later.1.1),
        omega (arith, wait_pay-append film group set by.0 later.0, wait_pay-gone film group rest later.0 fits by.3, by.4),
      )
