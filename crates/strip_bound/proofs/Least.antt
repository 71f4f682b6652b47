-- No list has a group wait for less than its extra.
use Rattle.std.proofs.Common.{◌≡◌, ℕ, zero, suc, ◌+◌, ◌*◌, ◌≤◌, Bool, true, cond, not, eqb, List, [], ◌∷◌, slice_index, inl, inr, refl, ap, ◌∙◌, arith}
use Rattle.std.proofs.lemmas.Bool.{and_parts, and_from}
use Rattle.std.proofs.Math.Nat.{mul-le-mul_left}
use Rattle.strip_mask.specs.Set.{IsSet, has, meet, without, size}
use Rattle.strip_mask.proofs.ByMembers.{has_from_without, IsSet-without, some_member}
use Rattle.strip_mask.proofs.Sizes.{size-without, size-empty}
use Rattle.strip_model.specs.Film.{FilmData}
use Rattle.strip_model.specs.Pay.{works}
use Rattle.strip_film.specs.Shoot.{cast_of}
use Rattle.strip_film.proofs.Casts.{has_cast}
use Rattle.strip_film.proofs.Lists.{AllOnce}
use Rattle.strip_group.specs.Group.{is_waited, waited_days, group_extra}
use Rattle.strip_bound.specs.Bounds.{group_data}
use Rattle.strip_bound.specs.Waiting.{wait_pay}
use Rattle.strip_mask.proofs.Totals.{cond_le}
use Rattle.strip_bound.proofs.Members.{shared_or_none, shared_from_test}
use Rattle.strip_bound.proofs.Extra.{waited_days-empty, waited_days-without, extra_le, extra-none}
use Rattle.strip_bound.proofs.Waits.{AreGone, is_idle, waits, wait_pay-split, cast_without, gone_without}

module _ (film : FilmData) where
  -- while someone of the group has a scene to come, this actor has one
  abbrev IsLast : ℕ → ℕ → ℕ → Type 0
  IsLast group last set = (actor : ℕ) → has group actor ≡ true → has (cast_of film set) actor ≡ true → has (cast_of film set) last ≡ true

  -- the same all along a list
  abbrev LeavesLast : ℕ → ℕ → ℕ → List ℕ → Type 0
  LeavesLast group last set [] = IsLast group last set
  LeavesLast group last set (scene ∷ scenes) = IsLast group last set × LeavesLast group last (without set scene) scenes

  leaves_last_now : (group last set : ℕ) (scenes : List ℕ) → LeavesLast group last set scenes → IsLast group last set
  leaves_last_now group last set [] leaves = leaves
  leaves_last_now group last set (s ∷ scenes) leaves = leaves.0

  -- anyone does, where all are gone
  leaves_after_all : (group last set : ℕ) (scenes : List ℕ) → IsSet set → AreGone film group set → LeavesLast group last set scenes
  leaves_after_all group last set [] is gone = λ actor member there. absurd (gone actor member there)
  leaves_after_all group last set (s ∷ scenes) is gone = (
    λ actor member there. absurd (gone actor member there),
    leaves_after_all group last (without set s) scenes (IsSet-without set s is) (gone_without film group set s is gone),
  )

  -- someone of a group that isn't empty leaves last
  some_last : (group set : ℕ) (scenes : List ℕ) → IsSet group → IsSet set → (x : ℕ) → has group x ≡ true
      → (last : ℕ) × (has group last ≡ true) × LeavesLast group last set scenes
  some_last group set [] is within x there = elim (shared_or_none group (cast_of film set) is) [
    | inl some ↦ (some.0, some.1, λ actor member working. some.2)
    | inr none ↦ (x, there, leaves_after_all group x set [] within none)
  ]
  some_last group set (s ∷ scenes) is within x there =
      let fewer : IsSet (without set s) = IsSet-without set s within in
      let later = some_last group (without set s) scenes is fewer x there in
      elim (shared_or_none group (cast_of film (without set s)) is) [
        | inl some ↦ (
          later.0,
          later.1,
          (λ actor member working. cast_without film set s later.0 within (leaves_last_now group later.0 (without set s) scenes later.2 some.0 some.1 some.2), later.2),
        )
        | inr none ↦ elim (shared_or_none group (cast_of film set) is) [
          | inl some ↦ (some.0, some.1, (λ actor member working. some.2, leaves_after_all group some.0 (without set s) scenes fewer none))
          | inr gone ↦ (x, there, leaves_after_all group x set (s ∷ scenes) within gone)
        ]
      ]

  -- who leaves last waits on the days of the others
  last_waits : (group others last set : ℕ) (scenes : List ℕ) → IsSet set → IsSet others
      → ((i : ℕ) → has others i ≡ true → has group i ≡ true) → AllOnce set scenes → LeavesLast group last set scenes
      → waited_days (group_data film) set others last ≤ waits film last set scenes
  last_waits group others last set [] within is part each leaves =
      let none : waited_days (group_data film) set others last ≡ 0
      = ap (λ (q : ℕ). waited_days (group_data film) q others last) each.1 ∙ waited_days-empty (group_data film) others last in
      omega (arith, none)
  last_waits group others last set (s ∷ scenes) within is part each leaves =
      let waited : Bool = is_waited (group_data film) others last s in
      let rest : waited_days (group_data film) (without set s) others last ≤ waits film last (without set s) scenes
      = last_waits group others last (without set s) scenes (IsSet-without set s within) is part (each.0.1, each.1) leaves.1 in
      let here : cond waited (slice_index film.days s) 0 ≤ cond (is_idle film last set s) (slice_index film.days s) 0 = cond_le waited (is_idle film last set s) (slice_index film.days s) waiting in
      omega (arith, rest, here, waited_days-without (group_data film) set s others last within each.0.0)
    where
      waiting : is_waited (group_data film) others last s ≡ true → is_idle film last set s ≡ true
      waiting some =
          let parts = and_parts (not (eqb (meet (slice_index film.casts s) others) 0)) (not (works film last s)) some in
          let shared = shared_from_test (slice_index film.casts s) others is parts.0 in
          let present : has (cast_of film set) shared.0 ≡ true = has_cast film set shared.0 within (s, each.0.0, shared.1) in
          and_from (has (cast_of film set) last) (not (works film last s)) (leaves.0 shared.0 (part shared.0 shared.2) present) parts.1

  extra_at_most : (n group set : ℕ) (scenes : List ℕ) → size group ≡ n → IsSet group → IsSet set → AllOnce set scenes
      → group_extra (group_data film) set group ≤ wait_pay film group set scenes
  extra_at_most zero group set scenes count is within each = omega (arith, extra-none (group_data film) set group count)
  extra_at_most (suc n) group set scenes count is within each =
      let some = some_member group is (λ none. let e : size group ≡ 0 = ap size none ∙ size-empty in omega (arith, e, count)) in
      let found = some_last group set scenes is within some.0 some.2 in
      let last : ℕ = found.0 in
      let others : ℕ = without group last in
      let days : ℕ = waited_days (group_data film) set others last in
      let hold : ℕ = slice_index film.holds last in
      let fewer : size others + 1 ≡ size group = size-without group last is found.1 in
      let before : group_extra (group_data film) set others ≤ wait_pay film others set scenes
      = extra_at_most n others set scenes (omega (arith, fewer, count)) (IsSet-without group last is) within each in
      let waiting : hold * days ≤ hold * waits film last set scenes = mul-le-mul_left hold
      (last_waits group others last set scenes within (IsSet-without group last is) (λ i there. (has_from_without group last i there).1) each found.2) in
      omega (arith, before, waiting, extra_le (group_data film) set group last is found.1, wait_pay-split film group last set scenes is found.1)

  -- no list has less
  pub extra_is_least : (group set : ℕ) (scenes : List ℕ) → IsSet group → IsSet set → AllOnce set scenes
      → group_extra (group_data film) set group ≤ wait_pay film group set scenes
  extra_is_least group set scenes is within each = extra_at_most (size group) group set scenes refl is within each
