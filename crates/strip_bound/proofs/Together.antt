-- The extra of a group is at least what the extras of its parts add up to.
use Rattle.std.proofs.Common.{◌≡◌, ◌≢◌, ℕ, zero, suc, ◌+◌, ◌*◌, ◌≤◌, ◌⊎◌, Bool, true, false, not, ◌&&◌, eqb, slice_index, inl, inr, refl, sym, ap, ◌∙◌, arith}
use Rattle.std.proofs.lemmas.Bool.{and_parts, and_right, cases_Bool, and_from}
use Rattle.std.proofs.Math.Nat.{min-le_left, min-le_right, mul-le-mul_left}
use Rattle.strip_mask.specs.Set.{IsSet, has, meet, without, members, size}
use Rattle.strip_mask.proofs.ByMembers.{has-without, has-without_other, has_from_without, IsSet-without, some_member}
use Rattle.strip_mask.proofs.Sizes.{size-without, size-empty, size_mono}
use Rattle.strip_model.specs.Film.{FilmData}
use Rattle.strip_model.specs.Pay.{works}
use Rattle.strip_group.specs.Group.{GroupData, is_waited, waited_days, group_extra}
use Rattle.strip_bound.specs.Bounds.{group_data, days_with_without, pair_extra}
use Rattle.strip_mask.proofs.Totals.{cond_le, sum_filter, sum_by_mono}
use Rattle.strip_bound.proofs.Members.{test_from_shared}
use Rattle.strip_bound.proofs.Extra.{waited_days_mono, extra_with_last, extra_le, extra_attained, extra-none}

-- every member of the first is one of the second
abbrev Inside : ℕ → ℕ → Type 0
Inside a b = (i : ℕ) → has a i ≡ true → has b i ≡ true

-- a part that lacks who is taken out stays a part
inside_without : (a b x : ℕ) → Inside a b → has a x ≡ false → Inside a (without b x)
inside_without a b x part absent i there = has-without_other b x i (λ same. let e : has a x ≡ true = ap (has a) same ∙ there in cc) ∙ part i there

inside_both : (a b x : ℕ) → Inside a b → Inside (without a x) (without b x)
inside_both a b x part i there = let was = has_from_without a x i there in has-without_other b x i was.0 ∙ part i was.1

module _ (film : GroupData) where
  -- who leaves last in the whole as well as in a part waits no less in the whole
  last_of_part : (set whole part x : ℕ) → IsSet part → Inside part whole → has part x ≡ true → (rest before : ℕ)
      → group_extra film set (without part x) + rest ≤ before
      → group_extra film set part + rest ≤ before + slice_index film.holds x * waited_days film set (without whole x) x
  last_of_part set whole part x is inside there rest before before_is =
      let days : waited_days film set (without part x) x ≤ waited_days film set (without whole x) x
      = waited_days_mono film set (without part x) (without whole x) x (IsSet-without part x is) (inside_both part whole x inside) in
      let pay : slice_index film.holds x * waited_days film set (without part x) x ≤ slice_index film.holds x * waited_days film set (without whole x) x
      = mul-le-mul_left (slice_index film.holds x) days in
      omega (arith, before_is, pay, extra_le film set part x is there)

  together_by_size : (n set whole a b : ℕ) → size whole ≡ n → IsSet whole → IsSet a → IsSet b → Inside a whole → Inside b whole
      → ((i : ℕ) → has a i ≡ true → has b i ≡ false)
      → group_extra film set a + group_extra film set b ≤ group_extra film set whole
  together_by_size zero set whole a b count is is_a is_b in_a in_b apart =
      let none_a : group_extra film set a ≡ 0 = extra-none film set a (no_part a in_a) in
      let none_b : group_extra film set b ≡ 0 = extra-none film set b (no_part b in_b) in
      omega (arith, none_a, none_b)
    where
      no_part : (part : ℕ) → Inside part whole → size part ≡ 0
      no_part part inside = omega (arith, size_mono part whole inside, count)
  together_by_size (suc n) set whole a b count is is_a is_b in_a in_b apart =
      let some = some_member whole is (λ none. let e : size whole ≡ 0 = ap size none ∙ size-empty in omega (arith, e, count)) in
      let found = extra_attained film set whole some.0 is some.2 in
      let x : ℕ = found.0 in
      let fewer : size (without whole x) + 1 ≡ size whole = size-without whole x is found.1 in
      let small : size (without whole x) ≡ n = omega (arith, fewer, count) in
      let is_rest : IsSet (without whole x) = IsSet-without whole x is in
      elim (cases_Bool (has a x)) [
        | inl first ↦ (
            let before : group_extra film set (without a x) + group_extra film set b ≤ group_extra film set (without whole x)
            = together_by_size n set (without whole x) (without a x) b small is_rest (IsSet-without a x is_a) is_b (inside_both a whole x in_a)
            (inside_without b whole x in_b (apart x first)) (λ i there. apart i (has_from_without a x i there).1) in
            omega (arith, found.2, last_of_part set whole a x is_a in_a first (group_extra film set b) (group_extra film set (without whole x)) before))
        | inr absent ↦ elim (cases_Bool (has b x)) [
          | inl second ↦ (
              let before : group_extra film set a + group_extra film set (without b x) ≤ group_extra film set (without whole x)
              = together_by_size n set (without whole x) a (without b x) small is_rest is_a (IsSet-without b x is_b) (inside_without a whole x in_a absent)
              (inside_both b whole x in_b) (λ i there. lacks i x (apart i there)) in
              omega (arith, found.2, last_of_part set whole b x is_b in_b second (group_extra film set a) (group_extra film set (without whole x)) (omega (arith, before))))
          | inr neither ↦ (
              let before : group_extra film set a + group_extra film set b ≤ group_extra film set (without whole x)
              = together_by_size n set (without whole x) a b small is_rest is_a is_b (inside_without a whole x in_a absent) (inside_without b whole x in_b neither) apart in
              omega (arith, found.2, before))
        ]
      ]
    where
      lacks : (i x : ℕ) → has b i ≡ false → has (without b x) i ≡ false
      lacks i x absent = has-without b x i ∙ and_right (not (eqb x i)) (has b i) absent

  -- two parts that share no actor
  pub extras_together : (set whole a b : ℕ) → IsSet whole → IsSet a → IsSet b → Inside a whole → Inside b whole
      → ((i : ℕ) → has a i ≡ true → has b i ≡ false)
      → group_extra film set a + group_extra film set b ≤ group_extra film set whole
  extras_together set whole a b is is_a is_b in_a in_b apart = together_by_size (size whole) set whole a b refl is is_a is_b in_a in_b apart

-- ---- two actors

module _ (film : FilmData) where
  -- who leaves last waits on the days of another without him
  waits_without : (set others last actor : ℕ) → has others actor ≡ true → days_with_without film set actor last ≤ waited_days (group_data film) set others last
  waits_without set others last actor there =
      let apart : ℕ → Bool = λ scene. works film actor scene && not (works film last scene) in
      rw (sum_filter (slice_index film.days) apart (members set), sum_filter (slice_index film.days) (is_waited (group_data film) others last) (members set))
      (sum_by_mono _ _ (members set) (λ s. cond_le (apart s) (is_waited (group_data film) others last s) (slice_index film.days s) (λ passes.
      let parts = and_parts (works film actor s) (not (works film last s)) passes in
      and_from (not (eqb (meet (slice_index film.casts s) others) 0)) (not (works film last s))
      (test_from_shared (slice_index film.casts s) others actor parts.0 there) parts.1)))

  pub pair_at_most : (set pair a b : ℕ) → IsSet pair → a ≢ b → has pair a ≡ true → has pair b ≡ true → ((i : ℕ) → has pair i ≡ true → (a ≡ i) ⊎ (b ≡ i))
      → pair_extra film set a b ≤ group_extra (group_data film) set pair
  pair_at_most set pair a b is differ in_a in_b only =
      let found = extra_attained (group_data film) set pair a is in_a in
      elim (only found.0 found.1) [
        | inl first ↦ (
            let last : group_extra (group_data film) set pair ≡ extra_with_last (group_data film) set pair a
            = found.2 ∙ ap (extra_with_last (group_data film) set pair) (sym first) in
            let pay : slice_index film.holds a * days_with_without film set b a ≤ slice_index film.holds a * waited_days (group_data film) set (without pair a) a
            = mul-le-mul_left (slice_index film.holds a) (waits_without set (without pair a) a b (has-without_other pair a b differ ∙ in_b)) in
            omega (arith, last, pay, min-le_left (slice_index film.holds a * days_with_without film set b a) (slice_index film.holds b * days_with_without film set a b)))
        | inr second ↦ (
            let last : group_extra (group_data film) set pair ≡ extra_with_last (group_data film) set pair b
            = found.2 ∙ ap (extra_with_last (group_data film) set pair) (sym second) in
            let pay : slice_index film.holds b * days_with_without film set a b ≤ slice_index film.holds b * waited_days (group_data film) set (without pair b) b
            = mul-le-mul_left (slice_index film.holds b) (waits_without set (without pair b) b a (has-without_other pair b a (λ same. differ (sym same)) ∙ in_a)) in
            omega (arith, last, pay, min-le_right (slice_index film.holds a * days_with_without film set b a) (slice_index film.holds b * days_with_without film set a b)))
      ]
