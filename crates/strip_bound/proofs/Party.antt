-- The parties of a set are paid for waiting no less than their values.
use Rattle.std.proofs.Common.{◌≡◌, ◌≢◌, ℕ, zero, suc, ◌+◌, ◌-◌, ◌*◌, ◌<◌, ◌≤◌, max, true, false, not, List, All, Contains, filter, length, take, drop, slice_index, inl, inr, sym, ◌∙◌, subst, arith}
use Rattle.std.proofs.Math.Nat.{max-eq_left, max-eq_right, mul-le-mul_right}
use Rattle.std.proofs.lemmas.Bool.{and_parts, cases_lt, false≢true, not-true, false_from_ne_true}
use Rattle.std.proofs.lemmas.List.Elements.{All-weaker, All-contains_itself}
use Rattle.strip_mask.specs.Set.{IsSet, LiesBelow, has, members, numbers_below, size}
use Rattle.strip_mask.specs.Sums.{sum_below}
use Rattle.strip_mask.proofs.Below.{is_set_below}
use Rattle.strip_mask.proofs.ByMembers.{has_from_minus}
use Rattle.strip_mask.proofs.Members.{has_from_members, members_rise}
use Rattle.strip_mask.proofs.Sums.{sum_below_mono}
use Rattle.strip_model.specs.Film.{FilmData}
use Rattle.strip_mask.proofs.Sizes.{size_mono}
use Rattle.strip_film.specs.Bounds.{plain_bound}
use Rattle.strip_film.specs.Film.{IsFilm, LiesIn}
use Rattle.strip_film.specs.Shoot.{on_location}
use Rattle.strip_mask.proofs.Sizes.{size_mono}
use Rattle.strip_film.specs.Finish.{steps_cost}
use Rattle.strip_film.proofs.Located.{location_lies}
use Rattle.strip_film.proofs.Lists.{AllOnce}
use Rattle.strip_model.specs.declared.kind.Kind.TheVariants.{Arrivals}
use Rattle.strip_group.specs.Group.{GroupData}
use Rattle.strip_arrivals.specs.Along.{waiting}
use Rattle.strip_arrivals.specs.Arrivals.{arrivals_value}
use Rattle.strip_arrivals.proofs.Along.{value_le}
use Rattle.strip_bound.specs.Bounds.{bound, chosen, greatest_below, group_at, group_data, is_newcomer, left_at, located_by_hold, newcomers_at, newcomers_of, number_of_parties, parties_extra, party_value, score, set_of}
use Rattle.strip_bound.specs.Falling.{by_falling}
use Rattle.strip_bound.proofs.Arriving.{from_joined, has_each, joined, waiting_within_steps, waits_together}
use Rattle.strip_bound.proofs.Fall.{Chain, below_from_numbers, contains_kept, once, same_members}
use Rattle.strip_bound.proofs.Pieces.{contains_take, contains_drop, from_set_of, in_set_of, more_taken}
use Rattle.strip_bound.proofs.Places.{pieces_differ, size_piece}

module _ (film : FilmData) (set : ℕ) where
  -- ---- who is in a party

  pub located_once : Chain (λ a b. a ≢ b) (located_by_hold film set)
  located_once = once (slice_index film.holds) (members (on_location film set)) (members_rise (on_location film set))

  pub is_located : (i : ℕ) → Contains (located_by_hold film set) i → has (on_location film set) i ≡ true
  is_located i there = has_from_members (on_location film set) i
      ((same_members (slice_index film.holds) (members (on_location film set)) i).0 there)

  pub is_away : (i : ℕ) → has (newcomers_of film set) i ≡ true → (i < length film.rates) × (has (on_location film set) i ≡ false)
  is_away i there =
      let found = contains_kept (is_newcomer film set) (numbers_below (length film.rates)) i
      (from_set_of (filter (is_newcomer film set) (numbers_below (length film.rates))) i there) in (
        below_from_numbers (length film.rates) i found.0,
        not-true (has (on_location film set) i) (and_parts (not (has (on_location film set) i)) _ found.1).0,
      )

  -- who is chosen was left, and who is left is a newcomer
  pub from_chosen : (many count place i : ℕ) → has (newcomers_at film set many count place) i ≡ true
      → Contains (chosen film set (group_at film set many place) (left_at film set many place)) i
  from_chosen many count place i there = contains_take count (chosen film set (group_at film set many place) (left_at film set many place)) i
      (from_set_of (take count (chosen film set (group_at film set many place) (left_at film set many place))) i there)

  pub was_left : (group newcomers i : ℕ) → Contains (chosen film set group newcomers) i → has newcomers i ≡ true
  was_left group newcomers i there = has_from_members newcomers i ((same_members (score film set group) (members newcomers) i).0
      (contains_take 2 (by_falling (score film set group) (members newcomers)) i there))

  pub left_are : (many place i : ℕ) → has (left_at film set many place) i ≡ true → has (newcomers_of film set) i ≡ true
  left_are many zero i there = there
  left_are many (suc place) i there = left_are many place i (has_from_minus (left_at film set many place)
      (set_of (chosen film set (group_at film set many place) (left_at film set many place))) i there).0

  -- who is left for a later party was left before, and wasn't chosen
  left_later : (many place more i : ℕ) → has (left_at film set many (suc place + more)) i ≡ true
      → ¬ (Contains (chosen film set (group_at film set many place) (left_at film set many place)) i)
  left_later many place zero i there taken =
      let at : suc place + 0 ≡ suc place = omega arith in
      let gone : has (set_of (chosen film set (group_at film set many place) (left_at film set many place))) i ≡ false
      = (has_from_minus (left_at film set many place) (set_of (chosen film set (group_at film set many place) (left_at film set many place))) i
      (subst (λ (n : ℕ). has (left_at film set many n) i ≡ true) at there)).1 in
      false≢true (sym gone ∙ in_set_of (chosen film set (group_at film set many place) (left_at film set many place)) i taken)
  left_later many place (suc more) i there taken =
      let at : suc place + suc more ≡ suc (suc place + more) = omega arith in
      left_later many place more i (has_from_minus (left_at film set many (suc place + more))
      (set_of (chosen film set (group_at film set many (suc place + more)) (left_at film set many (suc place + more)))) i
      (subst (λ (n : ℕ). has (left_at film set many n) i ≡ true) at there)).0 taken

  pub group_located : (many place i : ℕ) → has (group_at film set many place) i ≡ true → has (on_location film set) i ≡ true
  group_located many place i there = is_located i (contains_drop (place * many) (located_by_hold film set) i
      (contains_take many (drop (place * many) (located_by_hold film set)) i (from_set_of (take many (drop (place * many) (located_by_hold film set))) i there)))

  pub newcomer_away : (many count place i : ℕ) → has (newcomers_at film set many count place) i ≡ true → (i < length film.rates) × (has (on_location film set) i ≡ false)
  newcomer_away many count place i there = is_away i (left_are many place i
      (was_left (group_at film set many place) (left_at film set many place) i (from_chosen many count place i there)))

  -- no newcomer of a party is of a group
  pub newcomer_apart : (many place count other i : ℕ) → has (newcomers_at film set many count other) i ≡ true → has (group_at film set many place) i ≡ false
  newcomer_apart many place count other i there = false_from_ne_true (has (group_at film set many place) i) (λ member.
      false≢true (sym (newcomer_away many count other i there).1 ∙ group_located many place i member))

  step_on : (j k m n : ℕ) → j < k → n ≤ m → j * m + n ≤ k * m
  step_on j k m n less few =
      let row : suc j * m ≤ k * m = mul-le-mul_right m (omega (arith, less)) in
      let more : suc j * m ≡ j * m + m = grind arith in
      omega (arith, row, more, few)

  groups_apart : (many j k i : ℕ) → j < k → has (group_at film set many j) i ≡ true → has (group_at film set many k) i ≡ true → ⊥
  groups_apart many j k i less first second = pieces_differ (located_by_hold film set) (j * many) many (k * many) many i located_once
      (step_on j k many many less (omega arith))
      (from_set_of (take many (drop (j * many) (located_by_hold film set))) i first)
      (from_set_of (take many (drop (k * many) (located_by_hold film set))) i second)

  pub newcomers_apart : (many a b j k i : ℕ) → j < k → has (newcomers_at film set many a j) i ≡ true → has (newcomers_at film set many b k) i ≡ true → ⊥
  newcomers_apart many a b j k i less first second =
      let at : k ≡ suc j + (k - suc j) = omega (arith, less) in
      let stayed : has (left_at film set many k) i ≡ true
      = was_left (group_at film set many k) (left_at film set many k) i (from_chosen many b k i second) in
      left_later many j (k - suc j) i (subst (λ (n : ℕ). has (left_at film set many n) i ≡ true) at stayed) (from_chosen many a j i first)

  -- ---- the greatest value is some value

  pub greatest_is : (many n place : ℕ) → (count : ℕ) × (count ≤ n) × (greatest_below film set many (suc n) place ≡ party_value film set many count place)
  greatest_is many zero place = (0, omega arith, max-eq_right (omega arith))
  greatest_is many (suc n) place =
      let before = greatest_is many n place in
      let last : ℕ = party_value film set many (suc n) place in
      let known : ℕ = greatest_below film set many (suc n) place in
      elim (cases_lt known last) [
        | inl less ↦ (suc n, omega arith, max-eq_right (omega (arith, less)))
        | inr most ↦ (before.0, omega (arith, before.1), max-eq_left most ∙ before.2)
      ]

  module _ (is : IsFilm film) (lies : LiesIn film set) where
    is_set : IsSet set
    is_set = is_set_below (length film.casts) set is.scene_count.1 lies

    pub group_known : (many place : ℕ) → LiesBelow (length film.rates) (group_at film set many place)
    group_known many place i there = location_lies film set is i (group_located many place i there)

    pub newcomers_known : (many count place : ℕ) → LiesBelow (length film.rates) (newcomers_at film set many count place)
    newcomers_known many count place i there = (newcomer_away many count place i there).0

    pub left_known : (many place : ℕ) → LiesBelow (length film.rates) (left_at film set many place)
    left_known many place i there = (is_away i (left_are many place i there)).0

    value_at_most : (many count place : ℕ) (scenes : List ℕ) → AllOnce set scenes
        → party_value film set many count place ≤ waiting (group_data film) (group_at film set many place) (newcomers_at film set many count place) scenes
    value_at_most many count place scenes each = value_le (group_data film) set (group_at film set many place) (newcomers_at film set many count place)
        is_set (is_set_below (length film.rates) (group_at film set many place) is.actor_count (group_known many place))
        (λ i there. newcomer_apart many place count place i there) scenes
        (is_set_below (length film.rates) (newcomers_at film set many count place) is.actor_count (newcomers_known many count place)) (has_each set scenes each)

    -- the parties of a size, whatever their number
    within_steps : (many : ℕ) (scenes : List ℕ) → AllOnce set scenes → plain_bound film set + parties_extra film set many ≤ steps_cost film set scenes
    within_steps many scenes each =
        let n : ℕ = number_of_parties film set many in
        let counts : ℕ → ℕ = λ place. (greatest_is many 2 place).0 in
        let group : ℕ → ℕ = group_at film set many in
        let coming : ℕ → ℕ = λ place. newcomers_at film set many (counts place) place in
        let paid : ℕ → ℕ = λ place. waiting (group_data film) (group place) (coming place) scenes in
        let values : parties_extra film set many ≤ sum_below n paid
        = sum_below_mono n (greatest_below film set many 3) paid (λ place _.
        omega (arith, (greatest_is many 2 place).2, value_at_most many (counts place) place scenes each)) in
        let together : sum_below n paid ≤ waiting (group_data film) (joined group n) (joined coming n) scenes
        = waits_together film group coming (groups_apart many)
        (λ j k i less. newcomers_apart many (counts j) (counts k) j k i less)
        (λ j k i member newcomer. false≢true (sym (newcomer_apart many j (counts k) k i newcomer) ∙ member)) n scenes in
        let steps : plain_bound film set + waiting (group_data film) (joined group n) (joined coming n) scenes ≤ steps_cost film set scenes
        = waiting_within_steps film is (joined group n) (joined coming n) set scenes lies each
        (λ i member. let found = from_joined group n i member in group_located many found.0 i found.2) in
        omega (arith, values, together, steps)

    pub arrivals_bound_tails : (scenes : List ℕ) → AllOnce set scenes → bound Arrivals film set ≤ steps_cost film set scenes
    arrivals_bound_tails scenes each =
        let few : plain_bound film set + parties_extra film set 7 ≤ steps_cost film set scenes = within_steps 7 scenes each in
        let many : plain_bound film set + parties_extra film set 10 ≤ steps_cost film set scenes = within_steps 10 scenes each in
        elim (cases_lt (parties_extra film set 7) (parties_extra film set 10)) [
          | inl less ↦ (let is_many : max (parties_extra film set 7) (parties_extra film set 10) ≡ parties_extra film set 10 = max-eq_right (omega (arith, less)) in
              omega (arith, many, is_many))
          | inr most ↦ (let is_few : max (parties_extra film set 7) (parties_extra film set 10) ≡ parties_extra film set 7 = max-eq_left most in
              omega (arith, few, is_few))
        ]

    -- ---- more newcomers

    -- a value is no lower with one more of the newcomers
    pub value_rises : ((film : GroupData) (set group newcomers fewer : ℕ) → IsSet group → IsSet newcomers
        → ((actor : ℕ) → has fewer actor ≡ true → has newcomers actor ≡ true) → arrivals_value film set group fewer ≤ arrivals_value film set group newcomers)
        → (many place count : ℕ) → party_value film set many count place ≤ party_value film set many (suc count) place
    value_rises no_more many place count = no_more (group_data film) set (group_at film set many place) (newcomers_at film set many (suc count) place)
        (newcomers_at film set many count place)
        (is_set_below (length film.rates) (group_at film set many place) is.actor_count (group_known many place))
        (is_set_below (length film.rates) (newcomers_at film set many (suc count) place) is.actor_count (newcomers_known many (suc count) place))
        (λ i there. more_taken count (chosen film set (group_at film set many place) (left_at film set many place)) i there)

    -- ---- the numbers of those who are in a party

    pub located_small : All (λ actor. actor < 64) (located_by_hold film set)
    located_small = All-weaker (Contains (located_by_hold film set)) (λ actor. actor < 64)
        (λ actor there. omega (arith, location_lies film set is actor (is_located actor there), is.actor_count))
        (located_by_hold film set) (All-contains_itself (located_by_hold film set))

    pub chosen_small : (many place : ℕ) → All (λ actor. actor < 64) (chosen film set (group_at film set many place) (left_at film set many place))
    chosen_small many place =
        let those : List ℕ = chosen film set (group_at film set many place) (left_at film set many place) in
        All-weaker (Contains those) (λ actor. actor < 64) (λ actor there. omega (
          arith,
          left_known many place actor (was_left (group_at film set many place) (left_at film set many place) actor there),
          is.actor_count,
        )) those (All-contains_itself those)

    pub group_few : (many place : ℕ) → size (group_at film set many place) ≤ many
    group_few many place = size_piece (place * many) many (located_by_hold film set)
        (λ actor there. omega (arith, location_lies film set is actor (is_located actor there), is.actor_count))

    -- nor more than are on location
    pub group_within : (many place : ℕ) → size (group_at film set many place) ≤ size (on_location film set)
    group_within many place = size_mono (group_at film set many place) (on_location film set) (group_located many place)

    pub newcomers_few : (many count place : ℕ) → size (newcomers_at film set many count place) ≤ count
    newcomers_few many count place = size_piece 0 count (chosen film set (group_at film set many place) (left_at film set many place))
        (λ actor there. omega (
          arith,
          (is_away actor (left_are many place actor
              (was_left (group_at film set many place) (left_at film set many place) actor there))).0,
          is.actor_count,
        ))
