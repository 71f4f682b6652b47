-- The extra of a group by who leaves last.
use Rattle.std.proofs.Common.{◌≡◌, ℕ, suc, ◌+◌, ◌*◌, ◌≤◌, true, cond, not, eqb, List, filter, sum_by, slice_index, sym, ap, ◌∙◌, arith}
use Rattle.std.proofs.lemmas.Bool.{and_parts, and_from}
use Rattle.strip_mask.specs.Set.{IsSet, has, meet, without, members, size}
use Rattle.strip_mask.proofs.Members.{Contains-members, has_from_members, members-empty}
use Rattle.strip_mask.proofs.Sizes.{size-without}
use Rattle.strip_mask.specs.Least.{least_over}
use Rattle.strip_group.specs.Group.{GroupData, is_waited, waited_days, extra_by_last, group_extra}
use Rattle.strip_mask.proofs.Totals.{cond_le, sum_filter, sum_members-without, sum_by_mono}
use Rattle.strip_bound.proofs.Members.{shared_from_test, test_from_shared}
use Rattle.strip_mask.proofs.Least.{least_over_le, least_over_attained}

-- ---- the days that an actor waits

module _ (film : GroupData) where
  pub waited_days-empty : (group actor : ℕ) → waited_days film 0 group actor ≡ 0
  waited_days-empty group actor = ap (λ (xs : List ℕ). sum_by (slice_index film.days) (filter (is_waited film group actor) xs)) members-empty

  pub waited_days-without : (set s group actor : ℕ) → IsSet set → has set s ≡ true
      → waited_days film set group actor ≡ cond (is_waited film group actor s) (slice_index film.days s) 0 + waited_days film (without set s) group actor
  waited_days-without set s group actor is there =
      let value : ℕ → ℕ = λ scene. cond (is_waited film group actor scene) (slice_index film.days scene) 0 in
      sum_filter (slice_index film.days) (is_waited film group actor) (members set)
      ∙ sum_members-without value set s is there
      ∙ ap (λ (n : ℕ). value s + n) (sym (sum_filter (slice_index film.days) (is_waited film group actor) (members (without set s))))

  -- for a larger group an actor waits no less
  pub waited_days_mono : (set a b actor : ℕ) → IsSet a → ((i : ℕ) → has a i ≡ true → has b i ≡ true)
      → waited_days film set a actor ≤ waited_days film set b actor
  waited_days_mono set a b actor is more =
      rw (sum_filter (slice_index film.days) (is_waited film a actor) (members set), sum_filter (slice_index film.days) (is_waited film b actor) (members set))
      (sum_by_mono _ _ (members set) (λ s. cond_le (is_waited film a actor s) (is_waited film b actor s) (slice_index film.days s) (λ waits.
      let parts = and_parts (not (eqb (meet (slice_index film.casts s) a) 0)) (not (has (slice_index film.casts s) actor)) waits in
      let shared = shared_from_test (slice_index film.casts s) a is parts.0 in
      and_from (not (eqb (meet (slice_index film.casts s) b) 0)) (not (has (slice_index film.casts s) actor))
      (test_from_shared (slice_index film.casts s) b shared.0 shared.1 (more shared.0 shared.2)) parts.1)))

  -- ---- who leaves last

  -- the pay where this actor leaves last
  abbrev pub extra_with_last : ℕ → ℕ → ℕ → ℕ
  extra_with_last set group last =
      group_extra film set (without group last) + slice_index film.holds last * waited_days film set (without group last) last

  sizes_without : (set group x : ℕ) → IsSet group → has group x ≡ true
      → (n : ℕ) × (size group ≡ suc n) × ((last : ℕ) → has group last ≡ true → size (without group last) ≡ n)
  sizes_without set group x is there =
      let fewer : size (without group x) + 1 ≡ size group = size-without group x is there in (
        size (without group x),
        omega (arith, fewer),
        λ last member.
            let one : size (without group last) + 1 ≡ size group = size-without group last is member in omega (arith, fewer, one),
      )

  pub extra-none : (set group : ℕ) → size group ≡ 0 → group_extra film set group ≡ 0
  extra-none set group none = ap (λ (n : ℕ). extra_by_last film set n group) none

  -- the same, by the size of the others
  abbrev value_of : ℕ → ℕ → ℕ → ℕ → ℕ
  value_of n set group last =
      extra_by_last film set n (without group last) + slice_index film.holds last * waited_days film set (without group last) last

  value_is : (set group last n : ℕ) → size (without group last) ≡ n → value_of n set group last ≡ extra_with_last set group last
  value_is set group last n count =
      ap (λ (m : ℕ). extra_by_last film set m (without group last) + slice_index film.holds last * waited_days film set (without group last) last) (sym count)

  -- no one of a group as its last gives less
  pub extra_le : (set group last : ℕ) → IsSet group → has group last ≡ true → group_extra film set group ≤ extra_with_last set group last
  extra_le set group last is member =
      let sizes = sizes_without set group last is member in
      let value : ℕ → ℕ = value_of sizes.0 set group in
      let is_so : group_extra film set group ≡ least_over value (members group) = ap (λ (n : ℕ). extra_by_last film set n group) sizes.1 in
      let low : least_over value (members group) ≤ value last = least_over_le value (members group) last (Contains-members group last is member) in
      omega (arith, is_so, low, value_is set group last sizes.0 (sizes.2 last member))

  -- and one gives this
  pub extra_attained : (set group x : ℕ) → IsSet group → has group x ≡ true
      → (last : ℕ) × (has group last ≡ true) × (group_extra film set group ≡ extra_with_last set group last)
  extra_attained set group x is there =
      let sizes = sizes_without set group x is there in
      let value : ℕ → ℕ = value_of sizes.0 set group in
      let is_so : group_extra film set group ≡ least_over value (members group) = ap (λ (n : ℕ). extra_by_last film set n group) sizes.1 in
      let found = least_over_attained value (members group) x (Contains-members group x is there) in
      let member : has group found.0 ≡ true = has_from_members group found.0 found.1 in
      (found.0, member, is_so ∙ found.2 ∙ value_is set group found.0 sizes.0 (sizes.2 found.0 member))
