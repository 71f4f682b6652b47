-- What is known of parties while they are asked.
use Rattle.std.proofs.Common.{◌≡◌, ◌≢◌, ℕ, zero, suc, ◌+◌, ◌-◌, ◌^◌, ◌<◌, ◌≤◌, ◌⊎◌, max, List, length, take, replicate, slice_index, slice_set, inl, inr, refl, sym, ap, ◌∙◌, subst, arith}
use Rattle.std.proofs.Math.Nat.{max-eq_left, max-eq_right, max-le, le-max_left, le-max_right}
use Rattle.std.proofs.lemmas.Bool.{cases_lt, cases_eq}
use Rattle.std.proofs.lemmas.List.{get_or-set_other, get_or-set_same, length-set, take_all}
use Rattle.strip_mask.specs.Set.{members, size}
use Rattle.strip_mask.specs.Sums.{sum_below}
use Rattle.strip_mask.proofs.Sizes.{length-members, size-le}
use Rattle.strip_mask.proofs.Sums.{sum_below-ext, sum_below-none, sum_below-point, sum_below_mono}
use Rattle.strip_model.specs.declared.kind.Kind.TheVariants.{Arrivals}
use Rattle.strip_model.specs.Film.{FilmData}
use Rattle.strip_film.specs.Film.{IsFilm, LiesIn}
use Rattle.strip_film.specs.Shoot.{on_location}
use Rattle.strip_bound.specs.declared.parties.Parties.{Parties}
use Rattle.strip_arrivals.specs.Arrivals.{arrivals_value}
use Rattle.strip_bound.specs.Bounds.{bound, chosen, greatest_below, group_at, group_data, located_by_hold, newcomers_at, newcomers_of, number_of_parties, parties_extra, party_value, set_of}
use Rattle.strip_bound.specs.declared.newcomers.Choices.{Choices}
use Rattle.strip_bound.specs.Parties.{AreAsked, AreChoices, AreParties}
use Rattle.strip_bound.proofs.Fall.{same_length}
use Rattle.strip_bound.proofs.Small.{bound_small}
use Rattle.strip_mask.proofs.Lists.{zeros}

module _ (film : FilmData) (set : ℕ) where
  -- ---- the greatest values

  pub value_le_greatest : (many n count place : ℕ) → count < n → party_value film set many count place ≤ greatest_below film set many n place
  value_le_greatest many zero count place less = absurd (omega (arith, less))
  value_le_greatest many (suc n) count place less =
      let known : ℕ = greatest_below film set many n place in
      let last : ℕ = party_value film set many n place in
      elim (cases_eq count n) [
        | inl same ↦ (let here : party_value film set many count place ≡ last = ap (λ (k : ℕ). party_value film set many k place) same in
            omega (arith, here, le-max_right known last))
        | inr other ↦ omega (arith, value_le_greatest many n count place (omega (arith, less, other)), le-max_left known last)
      ]

  -- where a value is no lower with more newcomers, that with the most of them is the greatest
  module _ (many place : ℕ) (rises : (n : ℕ) → party_value film set many n place ≤ party_value film set many (suc n) place) where
    pub greatest_last : (count : ℕ) → greatest_below film set many (suc count) place ≡ party_value film set many count place
    greatest_last zero = max-eq_right (omega arith)
    greatest_last (suc n) = max-eq_right (omega (arith, greatest_last n, rises n))

    -- a party that has no more newcomers has no other value
    pub no_more : (before count : ℕ) → newcomers_at film set many count place ≡ newcomers_at film set many before place
        → greatest_below film set many (suc count) place ≡ greatest_below film set many (suc before) place
    no_more before count same = greatest_last count
        ∙ ap (arrivals_value (group_data film) set (group_at film set many place)) same ∙ sym (greatest_last before)

    pub greatest_rises : (before count : ℕ) → before ≤ suc count → greatest_below film set many before place ≤ greatest_below film set many (suc count) place
    greatest_rises before zero fewer = elim (cases_eq before 1) [
      | inl same ↦ (let e : greatest_below film set many before place ≡ greatest_below film set many 1 place = ap (λ (k : ℕ). greatest_below film set many k place) same in
          omega (arith, e))
      | inr other ↦ (let none : before ≡ 0 = omega (arith, fewer, other) in
          let e : greatest_below film set many before place ≡ 0 = ap (λ (k : ℕ). greatest_below film set many k place) none in
          omega (arith, e))
    ]
    greatest_rises before (suc n) fewer = elim (cases_eq before (suc (suc n))) [
      | inl same ↦ (let e : greatest_below film set many before place ≡ greatest_below film set many (suc (suc n)) place
          = ap (λ (k : ℕ). greatest_below film set many k place) same in
          omega (arith, e))
      | inr other ↦ omega (
        arith,
        greatest_rises before n (omega (arith, fewer, other)),
        le-max_left (greatest_below film set many (suc n) place) (party_value film set many (suc n) place),
      )
    ]

  -- ---- how many there are

  pub located_count : length (located_by_hold film set) ≡ size (on_location film set)
  located_count = same_length (slice_index film.holds) (members (on_location film set)) ∙ length-members (on_location film set)

  pub few_parties : (many : ℕ) → (many ≡ 7) ⊎ (many ≡ 10) → number_of_parties film set many ≤ 10
  few_parties many size_is = elim size_is [
    | inl seven ↦ subst (λ (n : ℕ). number_of_parties film set n ≤ 10) (sym seven) (omega (arith, size-le (on_location film set)))
    | inr ten ↦ subst (λ (n : ℕ). number_of_parties film set n ≤ 10) (sym ten) (omega (arith, size-le (on_location film set)))
  ]

  -- ---- what is known of all together

  pub extra_le : (many : ℕ) (parties : Parties) → AreParties film set many parties → parties.extra ≤ parties_extra film set many
  extra_le many parties are =
      let all : parties_extra film set many ≡ sum_below parties.number (greatest_below film set many 3)
      = ap (λ (n : ℕ). sum_below n (greatest_below film set many 3)) (sym are.number) in
      omega (arith, are.extra, all, sum_below_mono parties.number (slice_index parties.values) (greatest_below film set many 3) (λ place _. are.most place))

  -- once all values are known, it is whole
  pub extra_is : (many : ℕ) (parties : Parties) → AreParties film set many parties
      → ((place : ℕ) → place < parties.number → slice_index parties.values place ≡ greatest_below film set many 3 place)
      → parties.extra ≡ parties_extra film set many
  extra_is many parties are known =
      are.extra ∙ sum_below-ext parties.number (slice_index parties.values) (greatest_below film set many 3) known
      ∙ ap (λ (n : ℕ). sum_below n (greatest_below film set many 3)) are.number

  pub parties_small : IsFilm film → LiesIn film set → (many : ℕ) → (many ≡ 7) ⊎ (many ≡ 10) → parties_extra film set many < 2 ^ 63
  parties_small is lies many size_is =
      let few : ℕ = parties_extra film set 7 in
      let most : ℕ = parties_extra film set 10 in
      let small : bound Arrivals film set < 2 ^ 63 = bound_small Arrivals film set is lies in
      elim size_is [
        | inl seven ↦ subst (λ (n : ℕ). parties_extra film set n < 2 ^ 63) (sym seven) (omega (arith, small, le-max_left few most))
        | inr ten ↦ subst (λ (n : ℕ). parties_extra film set n < 2 ^ 63) (sym ten) (omega (arith, small, le-max_right few most))
      ]

  -- ---- a value more

  raised_value : (values : List ℕ) (place value other : ℕ) → place < length values
      → ((other ≡ place) × (slice_index (slice_set values place (max (slice_index values place) value)) other ≡ max (slice_index values place) value))
      ⊎ ((other ≢ place) × (slice_index (slice_set values place (max (slice_index values place) value)) other ≡ slice_index values other))
  raised_value values place value other within = elim (cases_eq other place) [
    | inl same ↦ inl (same, ap (slice_index (slice_set values place (max (slice_index values place) value))) same ∙ get_or-set_same values place (max (slice_index values place) value) 0 within)
    | inr differs ↦ inr (differs, get_or-set_other values place other (max (slice_index values place) value) 0 differs)
  ]

  module _ (many count place value : ℕ) (before : Parties) (are : AreParties film set many before) (there : place < before.number)
      (fewer : count ≤ 2) (is_value : value ≡ party_value film set many count place) where
    -- the parties with this value kept
    abbrev pub with_value : Parties
    with_value = record before {
      values = slice_set before.values place (max (slice_index before.values place) value);
      extra = before.extra + (value - slice_index before.values place);
    }

    within : place < length before.values
    within = omega (arith, there, are.few, are.long)

    pub raised_are : AreParties film set many with_value
    raised_are =
        let old : ℕ = slice_index before.values place in
        let new : List ℕ = slice_set before.values place (max old value) in
        record {
          many = are.many;
          number = are.number;
          few = are.few;
          long = length-set before.values place (max old value) ∙ are.long;
          most = λ other. elim (raised_value before.values place value other within) [
            | inl same ↦ (
                let here : slice_index new other ≡ max old value = same.1 in
                let at : greatest_below film set many 3 other ≡ greatest_below film set many 3 place = ap (greatest_below film set many 3) same.0 in
                let most : max old value ≤ greatest_below film set many 3 place
                = max-le (are.most place) (omega (arith, is_value, value_le_greatest many 3 count place (omega (arith, fewer)))) in
                omega (arith, here, at, most))
            | inr differs ↦ omega (arith, differs.1, are.most other)
          ];
          extra =
              let moved : sum_below before.number (slice_index new) + old ≡ sum_below before.number (slice_index before.values) + slice_index new place
              = sum_below-point before.number place (slice_index new) (slice_index before.values) there (λ other _ differs.
              elim (raised_value before.values place value other within) [
                | inl same ↦ absurd (differs (sym same.0))
                | inr unmoved ↦ unmoved.1
              ]) in
              let here : slice_index new place ≡ max old value = get_or-set_same before.values place (max old value) 0 within in
              let more : max old value ≡ old + (value - old) = greater old value in
              omega (arith, are.extra, moved, here, more);
        }
      where
        greater : (a b : ℕ) → max a b ≡ a + (b - a)
        greater a b = elim (cases_lt a b) [
          | inl less ↦ max-eq_right (omega (arith, less)) ∙ omega (arith, less)
          | inr most ↦ max-eq_left most ∙ omega (arith, most)
        ]

    pub raised_here : (asked : ℕ) → asked ≤ count → ((n : ℕ) → party_value film set many n place ≤ party_value film set many (suc n) place)
        → slice_index before.values place ≡ greatest_below film set many asked place
        → slice_index (slice_set before.values place (max (slice_index before.values place) value)) place ≡ greatest_below film set many (suc count) place
    raised_here asked fewer rises known =
        let last : greatest_below film set many (suc count) place ≡ party_value film set many count place = greatest_last many place rises count in
        let lower : greatest_below film set many asked place ≤ greatest_below film set many (suc count) place
        = greatest_rises many place rises asked count (omega (arith, fewer)) in
        get_or-set_same before.values place (max (slice_index before.values place) value) 0 within
        ∙ (max-eq_right (omega (arith, known, is_value, last, lower)) ∙ (is_value ∙ sym last))

    pub raised_fits : IsFilm film → LiesIn film set → (many ≡ 7) ⊎ (many ≡ 10) → before.extra + (value - slice_index before.values place) < 2 ^ 64
    raised_fits is lies size_is =
        omega (arith, extra_le many with_value raised_are, parties_small is lies many size_is)

  -- ---- the newcomers of a party

  pub coming_is : (many count place found : ℕ) (choices : Choices) → (count ≡ 0) ⊎ AreChoices film set many choices → place < number_of_parties film set many
      → (count ≡ 0 → found ≡ 0) → (count ≡ 1 → found ≡ slice_index choices.first place) → (2 ≤ count → found ≡ slice_index choices.both place) → count ≤ 2
      → found ≡ newcomers_at film set many count place
  coming_is many zero place found choices are there none first both few = none refl
  coming_is many (suc zero) place found choices are there none first both few = elim are [
    | inl none_asked ↦ absurd (omega (arith, none_asked))
    | inr each ↦ first refl ∙ each.first place there
  ]
  coming_is many (suc (suc zero)) place found choices are there none first both few = elim are [
    | inl none_asked ↦ absurd (omega (arith, none_asked))
    | inr each ↦ both (omega arith) ∙ each.both place there
  ]
  coming_is many (suc (suc (suc n))) place found choices are there none first both few = absurd (omega (arith, few))

  -- ---- at first

  pub none_known : (many number need : ℕ) → number ≡ number_of_parties film set many → (many ≡ 7) ⊎ (many ≡ 10)
      → AreParties film set many (record { many = many; number = number; asked = 0; values = replicate 10 0; extra = 0; need = need })
  none_known many number need is_number size_is = record {
    many = refl;
    number = is_number;
    few = omega (arith, is_number, few_parties many size_is);
    long = refl;
    most = λ place. omega (arith, zeros 10 place);
    extra = sym (sum_below-none number (slice_index (replicate 10 0)) (λ place _. zeros 10 place));
  }

  -- ---- at the end

  pub few_le : (parties : Parties) → AreParties film set parties.many parties → parties.many ≡ 7
      → parties.extra ≤ max (parties_extra film set 7) (parties_extra film set 10)
  few_le parties are seven =
      let same : parties_extra film set parties.many ≡ parties_extra film set 7 = ap (parties_extra film set) seven in
      omega (arith, extra_le parties.many parties are, same, le-max_left (parties_extra film set 7) (parties_extra film set 10))

  pub many_le : (parties : Parties) → AreParties film set parties.many parties → parties.many ≡ 10 → parties.extra ≤ parties_extra film set 10
  many_le parties are ten = (let same : parties_extra film set parties.many ≡ parties_extra film set 10 = ap (parties_extra film set) ten in
      omega (arith, extra_le parties.many parties are, same))

  -- asked with all newcomers, they reach as far as is needed, or have all
  pub reached_or_all : (parties : Parties) (many need : ℕ) → AreParties film set parties.many parties → AreAsked film set parties.many parties
      → parties.asked ≡ 3 → parties.many ≡ many → parties.need ≡ need → (need ≤ parties.extra) ⊎ (parties.extra ≡ parties_extra film set many)
  reached_or_all parties many need are asked all is_many same = elim asked [
    | inl reached ↦ inl (omega (arith, reached, same))
    | inr known ↦ inr (extra_is parties.many parties are (subst
        (λ (n : ℕ). (place : ℕ) → place < parties.number → slice_index parties.values place ≡ greatest_below film set parties.many n place) all known) ∙ ap (parties_extra film set) is_many)
  ]

  -- at most seven on location are one party whatever its size
  pub one_size : size (on_location film set) ≤ 7 → parties_extra film set 10 ≡ parties_extra film set 7
  one_size few =
      let number : number_of_parties film set 10 ≡ number_of_parties film set 7 = omega (arith, few) in
      let at_most_one : number_of_parties film set 7 ≤ 1 = omega (arith, few) in
      ap (λ (n : ℕ). sum_below n (greatest_below film set 10 3)) number
      ∙ sum_below-ext (number_of_parties film set 7) (greatest_below film set 10 3) (greatest_below film set 7 3) (λ place there.
      let first : place ≡ 0 = omega (arith, there, at_most_one) in
      ap (greatest_below film set 10 3) first ∙ same_greatest 3 ∙ sym (ap (greatest_below film set 7 3) first))
    where
      same_group : group_at film set 10 0 ≡ group_at film set 7 0
      same_group = ap set_of (take_all 10 (located_by_hold film set) (omega (arith, located_count, few))
          ∙ sym (take_all 7 (located_by_hold film set) (omega (arith, located_count, few))))

      same_newcomers : (n : ℕ) → newcomers_at film set 10 n 0 ≡ newcomers_at film set 7 n 0
      same_newcomers n = ap (λ (group : ℕ). set_of (take n (chosen film set group (newcomers_of film set)))) same_group

      same_greatest : (n : ℕ) → greatest_below film set 10 n 0 ≡ greatest_below film set 7 n 0
      same_greatest zero = refl
      same_greatest (suc n) = λ i. max (same_greatest n i) (arrivals_value (group_data film) set (same_group i) (same_newcomers n i))

  pub all_of_few : (extra : ℕ) → size (on_location film set) ≤ 7 → extra ≡ parties_extra film set 7
      → extra ≡ max (parties_extra film set 7) (parties_extra film set 10)
  all_of_few extra few all =
      all ∙ sym (max-eq_left (omega (arith, one_size few)))
