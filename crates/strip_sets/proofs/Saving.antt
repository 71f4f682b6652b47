-- The most saved, of the sets without a place and of those with it.
use Rattle.std.proofs.Common.{◌≡◌, ◌≢◌, ℕ, zero, suc, ◌+◌, ◌*◌, ◌-◌, ◌^◌, ◌<◌, ◌≤◌, ◌⊎◌, true, false, List, max, slice_index, refl, sym, ap, ◌∙◌, subst, inl, inr, arith}
use Rattle.std.proofs.lemmas.Bool.{cases_lt, cases_eq, false≢true, cases_Bool}
use Rattle.std.proofs.lemmas.Nat.{mul-le}
use Rattle.strip_mask.specs.Set.{IsSet, full, has, sum_over, with, without}
use Rattle.strip_mask.proofs.Below.{LiesBelow-full, full-more, full-zero}
use Rattle.strip_mask.proofs.ByMembers.{below_width, has-empty, has-with_same, has-with_other, has-without_other, has-without_same, has_from_without, with-without, without-with, without_swap}
use Rattle.strip_mask.proofs.Totals.{sum_over-with, sum_over-without}
use Rattle.strip_sets.specs.Numbers.{halves}
use Rattle.strip_sets.specs.Saving.{Saves, SavingRoom, owes, owes_from}
use Rattle.strip_sets.proofs.Owed.{owes_most, owes_same, totals_same}
use Rattle.strip_sets.proofs.Sets.{below_top, halves_at, halves_out, halves_with, lacks_top, lies_small, sum_most, with_top, wider_top, without_less, without_top, without_with}

-- the greater of two is one of them
pub greater : (a b : ℕ) → (max a b ≡ a) ⊎ (max a b ≡ b)
greater a b = elim (cases_lt a b) [ inl less ↦ inr (omega (arith, less)) | inr more ↦ inl (omega (arith, more)) ]

is_set : (places set : ℕ) → places ≤ 64 → set < 2 ^ places → IsSet set
is_set places set few lt = lies_small 64 set (λ i there. (let below : i < places = below_width set places i lt there in omega (arith, below, few)))

-- ---- within the room

module _ {places classes limit : ℕ} {holds : List ℕ} {days first : ℕ → ℕ} {extras owed : ℕ → ℕ → ℕ} (few : places ≤ 64)
    (room : SavingRoom places classes limit holds days extras owed first) where
  -- a step stays within what all days save
  pub step_most : (set place number : ℕ) → set < 2 ^ places → has set place ≡ true → number ≤ room.base + sum_over holds (without set place) * days (without set place)
      → number + slice_index holds place * days (without set place) ≤ room.base + sum_over holds set * days set
  step_most set place number lt there le =
      let sum : sum_over holds (without set place) + slice_index holds place ≡ sum_over holds set = sum_over-without holds set place (is_set places set few lt) there in
      let whole : sum_over holds set * days (without set place) ≡ sum_over holds (without set place) * days (without set place)
      + slice_index holds place * days (without set place) = ap (λ (s : ℕ). s * days (without set place)) (sym sum) ∙ grind arith in
      let more : sum_over holds set * days (without set place) ≤ sum_over holds set * days set
      = mul-le (sum_over holds set) (days (without set place)) (sum_over holds set) (days set) (omega arith) (room.rise set place lt there) in
      omega (arith, le, whole, more)

  -- and owes no more than each set has
  pub owed_most : (set before : ℕ) → set < 2 ^ places → owes classes extras owed set before ≤ room.floor
  owed_most set before lt = omega (arith, owes_most classes extras owed (λ class _. owed class before) set, room.covered set lt)

  module _ {most : ℕ → ℕ} (saves : Saves places (slice_index holds) days (owes classes extras owed) first most) where
    -- each set saves at least what is owed
    pub saved_least : (set : ℕ) → set < 2 ^ places → room.floor ≤ most set
    saved_least set lt = omega (arith, room.low set lt, saves.kept set lt)

    -- and no more than all days save
    pub saved_most : (set : ℕ) → set < 2 ^ places → most set ≤ room.base + sum_over holds set * days set
    saved_most set lt = up_to (suc set) set (omega arith) lt
      where
        up_to : (m set : ℕ) → set < m → set < 2 ^ places → most set ≤ room.base + sum_over holds set * days set
        up_to zero set bound lt = absurd (omega (arith, bound))
        up_to (suc m) set bound lt = elim (saves.attained set lt) [
          | inl begun ↦ omega (arith, begun, room.begun set lt)
          | inr step ↦ (
              let less : without set step.0 < set = without_less set step.0 step.1 in
              let rest : most (without set step.0) ≤ room.base + sum_over holds (without set step.0) * days (without set step.0)
              = up_to m (without set step.0) (omega (arith, less, bound)) (omega (arith, less, lt)) in
              omega (arith, step.2, step_most set step.0 (most (without set step.0)) lt step.1 rest))
        ]

-- no place: nothing is saved
pub saves_none : (hold days : ℕ → ℕ) (owed : ℕ → ℕ → ℕ) (first : ℕ → ℕ) → Saves 0 hold days owed first first
saves_none hold days owed first = record {
  kept = λ set small. omega arith;
  higher = λ set place small there. (let none : set ≡ 0 = omega (arith, small) in absurd (false≢true (sym (has-empty place) ∙ ap (λ (s : ℕ). has s place) (sym none)
      ∙ there)));
  attained = λ set small. inl refl;
}

-- ---- numbers that agree

module _ (places classes : ℕ) (holds : List ℕ) (days first also_days also_first : ℕ → ℕ) (extras owed also_extras also_owed : ℕ → ℕ → ℕ)
    (d : (set : ℕ) → set < 2 ^ places → also_days set ≡ days set) (f : (set : ℕ) → set < 2 ^ places → also_first set ≡ first set)
    (e : (class set : ℕ) → set < 2 ^ places → also_extras class set ≡ extras class set)
    (o : (class set : ℕ) → set < 2 ^ places → also_owed class set ≡ owed class set) where
  fewer : (set place : ℕ) → set < 2 ^ places → has set place ≡ true → without set place < 2 ^ places
  fewer set place lt there = (let less : without set place < set = without_less set place there in omega (arith, less, lt))

  pub room_agrees : (limit : ℕ) → SavingRoom places classes limit holds days extras owed first → SavingRoom places classes limit holds also_days also_extras also_owed also_first
  room_agrees limit room = record {
    rise = λ set place lt there. omega (arith, room.rise set place lt there, d set lt, d (without set place) (fewer set place lt there));
    rise_owed = λ class set place known lt there. omega (
      arith,
      room.rise_owed class set place known lt there,
      o class set lt,
      o class (without set place) (fewer set place lt there),
    );
    base = room.base;
    begun = λ set lt. omega (arith, room.begun set lt, f set lt, ap (λ (n : ℕ). sum_over holds set * n) (d set lt));
    fits = λ set lt. omega (arith, room.fits set lt, ap (λ (n : ℕ). sum_over holds set * n) (d set lt));
    floor = room.floor;
    covered = λ set lt. omega (arith, room.covered set lt, totals_same classes extras owed also_extras also_owed set set (λ class. e class set lt) (λ class. o class set lt));
    low = λ set lt. omega (arith, room.low set lt, f set lt);
  }

  debt_agrees : (set place : ℕ) → set < 2 ^ places → has set place ≡ true
      → owes classes also_extras also_owed set (without set place) ≡ owes classes extras owed set (without set place)
  debt_agrees set place lt there = owes_same classes extras owed (λ class _. owed class (without set place)) also_extras also_owed
      (λ class _. also_owed class (without set place)) set set (λ class. e class set lt) (λ class. o class set lt)
      (λ class. o class (without set place) (fewer set place lt there))

  pub saves_agree : (most also_most : ℕ → ℕ) → ((set : ℕ) → set < 2 ^ places → also_most set ≡ most set)
      → Saves places (slice_index holds) days (owes classes extras owed) first most
      → Saves places (slice_index holds) also_days (owes classes also_extras also_owed) also_first also_most
  saves_agree most also_most m saves = record {
    kept = λ set lt. omega (arith, saves.kept set lt, f set lt, m set lt);
    higher = λ set place lt there. omega (
      arith,
      saves.higher set place lt there,
      m set lt,
      m (without set place) (fewer set place lt there),
      ap (λ (n : ℕ). slice_index holds place * n) (d (without set place) (fewer set place lt there)),
      debt_agrees set place lt there,
    );
    attained = λ set lt. elim (saves.attained set lt) [
      | inl begun ↦ inl (omega (arith, begun, f set lt, m set lt))
      | inr step ↦ inr (
        step.0,
        step.1,
        omega (
          arith,
          step.2,
          m set lt,
          m (without set step.0) (fewer set step.0 lt step.1),
          ap (λ (n : ℕ). slice_index holds step.0 * n) (d (without set step.0) (fewer set step.0 lt step.1)),
          debt_agrees set step.0 lt step.1,
        ),
      )
    ];
  }

-- ---- by halves

-- numbers of sets, by those of the sets without a place and of those with it
pub record IsSplit (n : ℕ) (all out within : ℕ → ℕ) : Type 0 where
  pub low : (set : ℕ) → set < 2 ^ n → out set ≡ all set
  pub high : (set : ℕ) → set < 2 ^ n → within set ≡ all (with set n)

pub split_agrees : (n : ℕ) (all out within : ℕ → ℕ) → IsSplit n all out within → (set : ℕ) → set < 2 ^ suc n → halves n out within set ≡ all set
split_agrees n all out within split set small = elim (cases_Bool (has set n)) [
  | inl there ↦ halves_with n out within set there ∙ split.high (without set n) (without_top n set small) ∙ ap all (with-without set n there)
  | inr missing ↦ halves_out n out within set missing ∙ split.low set (below_top n set small missing)
]

-- numbers of classes, by those of the sets without a place and of those with it
pub record AreParts (n : ℕ) (all out within : ℕ → ℕ → ℕ) : Type 0 where
  pub low : (class set : ℕ) → set < 2 ^ n → out class set ≡ all class set
  pub high : (class set : ℕ) → set < 2 ^ n → within class set ≡ all class (with set n)

-- one place in, another one out
other_place : (n set place : ℕ) → set < 2 ^ n → has set place ≡ true → place ≢ n
other_place n set place lt member = λ same. false≢true (sym (lacks_top n set lt) ∙ ap (has set) (sym same) ∙ member)

with_has : (n set place : ℕ) → set < 2 ^ n → has set place ≡ true → has (with set n) place ≡ true
with_has n set place lt member = has-with_other set n place (λ same. other_place n set place lt member (sym same)) ∙ member

-- numbers that rise with the set are greatest at all places
rises : (n : ℕ) (days : ℕ → ℕ) → ((set place : ℕ) → set < 2 ^ n → has set place ≡ true → days (without set place) ≤ days set) → (set : ℕ) → set < 2 ^ n → days set ≤ days (full n)
rises zero days rise set lt = (let none : set ≡ 0 = omega (arith, lt) in let same : days set ≡ days (full 0) = ap days none ∙ ap days (sym full-zero) in omega (arith, same))
rises (suc n) days rise set lt =
    let next : suc n ≡ n + 1 = omega arith in
    let all : days (full (suc n)) ≡ days (with (full n) n) = ap (λ (k : ℕ). days (full k)) next ∙ ap days (full-more n) in
    let high : (s : ℕ) → s < 2 ^ n → days (with s n) ≤ days (with (full n) n) = rises n (λ s. days (with s n)) (λ s place small there. subst
    (λ (o : ℕ). days o ≤ days (with s n)) (without_with s n place (other_place n s place small there))
    (rise (with s n) place (with_top n s small) (with_has n s place small there))) in
    elim (cases_Bool (has set n)) [
      | inl there ↦ (
          let same : days (with (without set n) n) ≡ days set = ap days (with-without set n there) in
          omega (arith, all, same, high (without set n) (without_top n set lt)))
      | inr missing ↦ (
          let small : set < 2 ^ n = below_top n set lt missing in
          let same : days (without (with set n) n) ≡ days set = ap days (without-with set n missing) in
          omega (arith, all, same, rise (with set n) n (with_top n set small) (has-with_same set n), high set small))
    ]

-- the numbers of the classes by the parts
module _ (n classes : ℕ) {extras owed extras_out owed_out extras_in owed_in : ℕ → ℕ → ℕ} (e : AreParts n extras extras_out extras_in)
    (o : AreParts n owed owed_out owed_in) where
  owes_out : (set before : ℕ) → set < 2 ^ n → before < 2 ^ n → owes classes extras_out owed_out set before ≡ owes classes extras owed set before
  owes_out set before lt also = owes_same classes extras owed (λ class _. owed class before) extras_out owed_out (λ class _. owed_out class before) set set
      (λ class. e.low class set lt) (λ class. o.low class set lt) (λ class. o.low class before also)

  owes_in : (set before : ℕ) → set < 2 ^ n → before < 2 ^ n → owes classes extras_in owed_in set before ≡ owes classes extras owed (with set n) (with before n)
  owes_in set before lt also = owes_same classes extras owed (λ class _. owed class (with before n)) extras_in owed_in (λ class _. owed_in class before) (with set n) set
      (λ class. e.high class set lt) (λ class. o.high class set lt) (λ class. o.high class before also)

  owes_across : (set : ℕ) → set < 2 ^ n → owes_from classes extras_in owed_in owed_out set ≡ owes classes extras owed (with set n) set
  owes_across set lt = owes_same classes extras owed (λ class _. owed class set) extras_in owed_in owed_out (with set n) set (λ class. e.high class set lt)
      (λ class. o.high class set lt) (λ class. o.low class set lt)

  -- at a set with the place
  module _ (set : ℕ) (small : set < 2 ^ suc n) (there : has set n ≡ true) where
    abbrev rest : ℕ
    rest = without set n

    rest_small : rest < 2 ^ n
    rest_small = without_top n set small

    back : with rest n ≡ set
    back = with-without set n there

    across_at : owes_from classes extras_in owed_in owed_out rest ≡ owes classes extras owed set rest
    across_at = owes_across rest rest_small ∙ ap (λ (s : ℕ). owes classes extras owed s rest) back

    -- by another place
    in_at : (place : ℕ) → has rest place ≡ true → place ≢ n → owes classes extras_in owed_in rest (without rest place) ≡ owes classes extras owed set (without set place)
    in_at place member other =
        let less : without rest place < rest = without_less rest place member in
        let swapped : with (without rest place) n ≡ without set place = ap (λ (s : ℕ). with s n) (without_swap set n place)
        ∙ with-without (without set place) n (has-without_other set place n other ∙ there) in
        owes_in rest (without rest place) rest_small (omega (arith, less, rest_small)) ∙ ap (λ (s : ℕ). owes classes extras owed s (with (without rest place) n)) back
        ∙ ap (owes classes extras owed set) swapped

  -- ---- the most saved

  module _ (holds : List ℕ) (days_out days_in first_out first_in most_out mid most_in : ℕ → ℕ)
      (low : Saves n (slice_index holds) days_out (owes classes extras_out owed_out) first_out most_out)
      (covered : (set : ℕ) → set < 2 ^ n → owes_from classes extras_in owed_in owed_out set ≤ most_out set)
      (between : (set : ℕ) → set < 2 ^ n → mid set ≡ max (first_in set) (most_out set + slice_index holds n * days_out set - owes_from classes extras_in owed_in owed_out set))
      (high : Saves n (slice_index holds) days_in (owes classes extras_in owed_in) mid most_in) where
    abbrev days : ℕ → ℕ
    days = halves n days_out days_in

    abbrev first : ℕ → ℕ
    first = halves n first_out first_in

    abbrev most : ℕ → ℕ
    most = halves n most_out most_in

    -- of a set without the place, by another one
    out_more : (f g : ℕ → ℕ) (set place : ℕ) → has set n ≡ false → halves n f g (without set place) ≡ f (without set place)
    out_more f g set place missing = halves_out n f g (without set place) (elim (cases_eq place n) [
      | inl is ↦ subst (λ (k : ℕ). has (without set k) n ≡ false) (sym is) (has-without_same set n)
      | inr other ↦ has-without_other set place n other ∙ missing
    ])

    -- of a set with the place, by another one
    in_more : (f g : ℕ → ℕ) (set place : ℕ) → has set n ≡ true → place ≢ n → halves n f g (without set place) ≡ g (without (without set n) place)
    in_more f g set place there other = halves_with n f g (without set place) (has-without_other set place n other ∙ there) ∙ ap g (without_swap set place n)

    -- and by the place itself
    by_top : (f g : ℕ → ℕ) (set : ℕ) → halves n f g (without set n) ≡ f (without set n)
    by_top f g set = halves_out n f g (without set n) (has-without_same set n)

    -- what a place saves
    saved_top : (set : ℕ) → slice_index holds n * days (without set n) ≡ slice_index holds n * days_out (without set n)
    saved_top set = ap (λ (d : ℕ). slice_index holds n * d) (by_top days_out days_in set)

    saved_in : (set place : ℕ) → has set n ≡ true → place ≢ n
        → slice_index holds place * days (without set place) ≡ slice_index holds place * days_in (without (without set n) place)
    saved_in set place there other = ap (λ (d : ℕ). slice_index holds place * d) (in_more days_out days_in set place there other)

    saved_out : (set place : ℕ) → has set n ≡ false → slice_index holds place * days (without set place) ≡ slice_index holds place * days_out (without set place)
    saved_out set place missing = ap (λ (d : ℕ). slice_index holds place * d) (out_more days_out days_in set place missing)

    mid_at : (set : ℕ) → set < 2 ^ suc n → mid (without set n) ≡ max (first_in (without set n))
        (most_out (without set n) + slice_index holds n * days_out (without set n) - owes_from classes extras_in owed_in owed_out (without set n))
    mid_at set small = between (without set n) (without_top n set small)

    kept_all : (set : ℕ) → set < 2 ^ suc n → first set ≤ most set
    kept_all set small = elim (cases_Bool (has set n)) [
      | inl there ↦ omega (
        arith,
        halves_with n first_out first_in set there,
        halves_with n most_out most_in set there,
        high.kept (without set n) (without_top n set small),
        mid_at set small,
      )
      | inr missing ↦ omega (
        arith,
        halves_out n first_out first_in set missing,
        halves_out n most_out most_in set missing,
        low.kept set (below_top n set small missing),
      )
    ]

    owes_out_at : (set place : ℕ) → set < 2 ^ suc n → has set n ≡ false → has set place ≡ true
        → owes classes extras_out owed_out set (without set place) ≡ owes classes extras owed set (without set place)
    owes_out_at set place small missing member =
        let lt : set < 2 ^ n = below_top n set small missing in
        let less : without set place < set = without_less set place member in
        owes_out set (without set place) lt (omega (arith, less, lt))

    rest_has : (set place : ℕ) → has set place ≡ true → place ≢ n → has (without set n) place ≡ true
    rest_has set place member other = has-without_other set n place (λ back. other (sym back)) ∙ member

    higher_all : (set place : ℕ) → set < 2 ^ suc n → has set place ≡ true
        → most (without set place) + slice_index holds place * days (without set place) ≤ most set + owes classes extras owed set (without set place)
    higher_all set place small member = elim (cases_Bool (has set n)) [
      | inl there ↦ (
          let here : most set ≡ most_in (without set n) = halves_with n most_out most_in set there in
          elim (cases_eq place n) [
            | inl is ↦ subst (λ (k : ℕ). most (without set k) + slice_index holds k * days (without set k) ≤ most set + owes classes extras owed set (without set k)) (sym is)
                (omega (
                  arith,
                  here,
                  high.kept (without set n) (without_top n set small),
                  by_top most_out most_in set,
                  saved_top set,
                  across_at set small there,
                  mid_at set small,
                ))
            | inr other ↦ (
                let inside : has (without set n) place ≡ true = rest_has set place member other in
                omega (
                  arith,
                  here,
                  high.higher (without set n) place (without_top n set small) inside,
                  in_more most_out most_in set place there other,
                  saved_in set place there other,
                  in_at set small there place inside other,
                ))
          ])
      | inr missing ↦ omega (
        arith,
        low.higher set place (below_top n set small missing) member,
        halves_out n most_out most_in set missing,
        out_more most_out most_in set place missing,
        saved_out set place missing,
        owes_out_at set place small missing member,
      )
    ]

    abbrev Attained : ℕ → Type 0
    Attained set = (most set ≡ first set) ⊎ ((place : ℕ) × (has set place ≡ true)
        × (most set + owes classes extras owed set (without set place) ≡ most (without set place) + slice_index holds place * days (without set place)))

    attained_all : (set : ℕ) → set < 2 ^ suc n → Attained set
    attained_all set small = elim (cases_Bool (has set n)) [
      | inl there ↦ (
          let here : most set ≡ most_in (without set n) = halves_with n most_out most_in set there in
          elim (high.attained (without set n) (without_top n set small)) [
            | inl begun ↦ elim (greater (first_in (without set n))
                (most_out (without set n) + slice_index holds n * days_out (without set n) - owes_from classes extras_in owed_in owed_out (without set n))) [
                  | inl alone ↦ inl (omega (arith, here, begun, mid_at set small, alone, halves_with n first_out first_in set there))
                  | inr step ↦ inr (
                    n,
                    there,
                    omega (
                      arith,
                      here,
                      begun,
                      mid_at set small,
                      step,
                      by_top most_out most_in set,
                      saved_top set,
                      across_at set small there,
                      covered (without set n) (without_top n set small),
                    ),
                  )
                ]
            | inr step ↦ (
                let parts = has_from_without set n step.0 step.1 in
                let other : step.0 ≢ n = λ same. parts.0 (sym same) in
                inr (
                  step.0,
                  parts.1,
                  omega (
                    arith,
                    here,
                    step.2,
                    in_more most_out most_in set step.0 there other,
                    saved_in set step.0 there other,
                    in_at set small there step.0 step.1 other,
                  ),
                ))
          ])
      | inr missing ↦ (
          let here : most set ≡ most_out set = halves_out n most_out most_in set missing in
          elim (low.attained set (below_top n set small missing)) [
            | inl begun ↦ inl (omega (arith, here, begun, halves_out n first_out first_in set missing))
            | inr step ↦ inr (
              step.0,
              step.1,
              omega (
                arith,
                here,
                step.2,
                out_more most_out most_in set step.0 missing,
                saved_out set step.0 missing,
                owes_out_at set step.0 small missing step.1,
              ),
            )
          ])
    ]

    pub saves_halves : Saves (suc n) (slice_index holds) (halves n days_out days_in) (owes classes extras owed) (halves n first_out first_in) (halves n most_out most_in)
    saves_halves = record { kept = kept_all; higher = higher_all; attained = attained_all }

  -- ---- room

  module _ (few : suc n ≤ 64) (limit : ℕ) (holds : List ℕ) (days_out days_in first_out first_in : ℕ → ℕ)
      (room : SavingRoom (suc n) classes limit holds (halves n days_out days_in) extras owed (halves n first_out first_in)) where
    -- what all days save of the sets without the place, and of those with it
    top_out : (set : ℕ) → set < 2 ^ n → sum_over holds set * halves n days_out days_in set ≡ sum_over holds set * days_out set
    top_out set lt = ap (λ (d : ℕ). sum_over holds set * d) (halves_out n days_out days_in set (lacks_top n set lt))

    top_in : (set : ℕ) → set < 2 ^ n
        → sum_over holds (with set n) * halves n days_out days_in (with set n) ≡ sum_over holds set * days_in set + slice_index holds n * days_in set
    top_in set lt = ap (λ (d : ℕ). sum_over holds (with set n) * d) (halves_at n days_out days_in set lt)
        ∙ ap (λ (s : ℕ). s * days_in set) (sum_over-with holds set n (omega (arith, few)) (lacks_top n set lt)) ∙ grind arith

    pub room_out : SavingRoom n classes limit holds days_out extras_out owed_out first_out
    room_out = record {
      rise = λ set place lt member. (
          let less : without set place < set = without_less set place member in
          omega (
            arith,
            room.rise set place (wider_top n set lt) member,
            halves_out n days_out days_in set (lacks_top n set lt),
            halves_out n days_out days_in (without set place) (lacks_top n (without set place) (omega (arith, less, lt))),
          ));
      rise_owed = λ class set place known lt member. (
          let less : without set place < set = without_less set place member in
          omega (
            arith,
            o.low class (without set place) (omega (arith, less, lt)),
            o.low class set lt,
            room.rise_owed class set place known (wider_top n set lt) member,
          ));
      base = room.base;
      begun = λ set lt. omega (arith, room.begun set (wider_top n set lt), halves_out n first_out first_in set (lacks_top n set lt), top_out set lt);
      fits = λ set lt. omega (arith, room.fits set (wider_top n set lt), top_out set lt);
      floor = room.floor;
      covered = λ set lt. omega (
        arith,
        room.covered set (wider_top n set lt),
        totals_same classes extras owed extras_out owed_out set set (λ class. e.low class set lt) (λ class. o.low class set lt),
      );
      low = λ set lt. omega (arith, room.low set (wider_top n set lt), halves_out n first_out first_in set (lacks_top n set lt));
    }

    rise_in : (set place : ℕ) → set < 2 ^ n → has set place ≡ true → days_in (without set place) ≤ days_in set
    rise_in set place lt member =
        let less : without set place < set = without_less set place member in
        let swapped : without (with set n) place ≡ with (without set place) n = without_with set n place (other_place n set place lt member) in
        omega (
          arith,
          room.rise (with set n) place (with_top n set lt) (with_has n set place lt member),
          ap (halves n days_out days_in) swapped,
          halves_at n days_out days_in set lt,
          halves_at n days_out days_in (without set place) (omega (arith, less, lt)),
        )

    pub rise_across : (class set : ℕ) → class < classes → set < 2 ^ n → owed_out class set ≤ owed_in class set
    rise_across class set known lt =
        let less : owed class (without (with set n) n) ≤ owed class (with set n) = room.rise_owed class (with set n) n known (with_top n set lt) (has-with_same set n) in
        let same : owed class (without (with set n) n) ≡ owed class set = ap (owed class) (without-with set n (lacks_top n set lt)) in
        omega (arith, less, same, o.low class set lt, o.high class set lt)

    module _ (most_out : ℕ → ℕ) (low : Saves n (slice_index holds) days_out (owes classes extras_out owed_out) first_out most_out) where
      across_most : (set : ℕ) → set < 2 ^ n → most_out set + slice_index holds n * days_out set ≤ room.base + sum_over holds set * days_in set + slice_index holds n * days_in set
      unfolding room_out
      across_most set lt =
          let most : most_out set ≤ room.base + sum_over holds set * days_out set = saved_most (omega (arith, few)) room_out low set lt in
          let out : without (with set n) n ≡ set = without-with set n (lacks_top n set lt) in
          let day : halves n days_out days_in (without (with set n) n) ≡ days_out set = ap (halves n days_out days_in) out ∙ halves_out n days_out days_in set (lacks_top n set lt) in
          let sum : sum_over holds (without (with set n) n) * halves n days_out days_in (without (with set n) n) ≡ sum_over holds set * days_out set
          = (λ i. sum_over holds (out i) * day i) in
          let hold : slice_index holds n * halves n days_out days_in (without (with set n) n) ≡ slice_index holds n * days_out set = ap (λ (d : ℕ). slice_index holds n * d) day in
          omega (
            arith,
            step_most few room (with set n) n (most_out set) (with_top n set lt) (has-with_same set n) (omega (arith, most, sum)),
            hold,
            top_in set lt,
          )

      pub across_fits : (set : ℕ) → set < 2 ^ n → most_out set + slice_index holds n * days_out set ≤ limit
      across_fits set lt = omega (arith, across_most set lt, top_in set lt, room.fits (with set n) (with_top n set lt))

      pub across_covered : (set : ℕ) → set < 2 ^ n → owes_from classes extras_in owed_in owed_out set ≤ most_out set
      unfolding room_out
      across_covered set lt = omega (
        arith,
        owes_across set lt,
        owed_most few room (with set n) set (with_top n set lt),
        saved_least (omega (arith, few)) room_out low set lt,
      )

      pub room_in : (mid : ℕ → ℕ)
          → ((set : ℕ) → set < 2 ^ n → mid set ≡ max (first_in set) (most_out set + slice_index holds n * days_out set - owes_from classes extras_in owed_in owed_out set))
          → SavingRoom n classes limit holds days_in extras_in owed_in mid
      room_in mid between = record {
        rise = rise_in;
        rise_owed = λ class set place known lt member. (
            let less : without set place < set = without_less set place member in
            let swapped : without (with set n) place ≡ with (without set place) n = without_with set n place (other_place n set place lt member) in
            omega (
              arith,
              o.high class (without set place) (omega (arith, less, lt)),
              o.high class set lt,
              room.rise_owed class (with set n) place known (with_top n set lt) (with_has n set place lt member),
              ap (owed class) swapped,
            ));
        base = room.base + slice_index holds n * days_in (full n);
        begun = λ set lt. omega (
          arith,
          between set lt,
          room.begun (with set n) (with_top n set lt),
          halves_at n first_out first_in set lt,
          top_in set lt,
          across_most set lt,
          top_day set lt,
        );
        fits = λ set lt. omega (arith, room.fits (with (full n) n) (with_top n (full n) full_lt), top_in (full n) full_lt, top_sum set lt);
        floor = room.floor;
        covered = λ set lt. omega (
          arith,
          room.covered (with set n) (with_top n set lt),
          totals_same classes extras owed extras_in owed_in (with set n) set (λ class. e.high class set lt) (λ class. o.high class set lt),
        );
        low = λ set lt. omega (arith, between set lt, room.low (with set n) (with_top n set lt), halves_at n first_out first_in set lt);
      }
        where
          full_lt : full n < 2 ^ n
          full_lt = lies_small n (full n) (LiesBelow-full n)

          top_day : (set : ℕ) → set < 2 ^ n → slice_index holds n * days_in set ≤ slice_index holds n * days_in (full n)
          top_day set lt = mul-le (slice_index holds n) (days_in set) (slice_index holds n) (days_in (full n)) (omega arith) (rises n days_in rise_in set lt)

          top_sum : (set : ℕ) → set < 2 ^ n → sum_over holds set * days_in set ≤ sum_over holds (full n) * days_in (full n)
          top_sum set lt = mul-le (sum_over holds set) (days_in set) (sum_over holds (full n)) (days_in (full n)) (sum_most holds n set lt) (rises n days_in rise_in set lt)

-- ---- one step of the parts

module _ (n classes : ℕ) {extras owed before extras_out owed_out before_out extras_in owed_in before_in : ℕ → ℕ → ℕ}
    (e : AreParts n extras extras_out extras_in) (o : AreParts n owed owed_out owed_in) (b : AreParts n before before_out before_in) where
  step_out : (set : ℕ) → set < 2 ^ n → owes_from classes extras_out owed_out before_out set ≡ owes_from classes extras owed before set
  step_out set lt = owes_same classes extras owed before extras_out owed_out before_out set set (λ class. e.low class set lt) (λ class. o.low class set lt)
      (λ class. b.low class set lt)

  step_in : (set : ℕ) → set < 2 ^ n → owes_from classes extras_in owed_in before_in set ≡ owes_from classes extras owed before (with set n)
  step_in set lt = owes_same classes extras owed before extras_in owed_in before_in (with set n) set (λ class. e.high class set lt) (λ class. o.high class set lt)
      (λ class. b.high class set lt)

  module _ (rise : (class set : ℕ) → class < classes → set < 2 ^ suc n → before class set ≤ owed class set) where
    pub rise_low : (class set : ℕ) → class < classes → set < 2 ^ n → before_out class set ≤ owed_out class set
    rise_low class set known lt = omega (arith, rise class set known (wider_top n set lt), o.low class set lt, b.low class set lt)

    pub rise_high : (class set : ℕ) → class < classes → set < 2 ^ n → before_in class set ≤ owed_in class set
    rise_high class set known lt = omega (arith, rise class (with set n) known (with_top n set lt), o.high class set lt, b.high class set lt)

  module _ (f g : ℕ → ℕ) (covered : (set : ℕ) → set < 2 ^ suc n → owes_from classes extras owed before set ≤ halves n f g set) where
    pub covered_low : (set : ℕ) → set < 2 ^ n → owes_from classes extras_out owed_out before_out set ≤ f set
    covered_low set lt = omega (arith, covered set (wider_top n set lt), halves_out n f g set (lacks_top n set lt), step_out set lt)

    pub covered_high : (set : ℕ) → set < 2 ^ n → owes_from classes extras_in owed_in before_in set ≤ g set
    covered_high set lt = omega (arith, covered (with set n) (with_top n set lt), halves_at n f g set lt, step_in set lt)

  -- the numbers, the others, the days before, and what comes of it
  pub saved_halves : (hold : ℕ) (a c f g h k r s : ℕ → ℕ)
      → ((set : ℕ) → set < 2 ^ n → r set ≡ max (a set) (f set + hold * h set - owes_from classes extras_out owed_out before_out set))
      → ((set : ℕ) → set < 2 ^ n → s set ≡ max (c set) (g set + hold * k set - owes_from classes extras_in owed_in before_in set))
      → (set : ℕ) → set < 2 ^ suc n
      → halves n r s set ≡ max (halves n a c set) (halves n f g set + hold * halves n h k set - owes_from classes extras owed before set)
  saved_halves hold a c f g h k r s low high set small = elim (cases_Bool (has set n)) [
    | inl there ↦ (
        let lt : without set n < 2 ^ n = without_top n set small in
        let debt : owes_from classes extras_in owed_in before_in (without set n) ≡ owes_from classes extras owed before set = step_in (without set n) lt
        ∙ ap (owes_from classes extras owed before) (with-without set n there) in
        let day : hold * halves n h k set ≡ hold * k (without set n) = ap (λ (d : ℕ). hold * d) (halves_with n h k set there) in
        omega (arith, halves_with n r s set there, high (without set n) lt, halves_with n a c set there, halves_with n f g set there, day, debt))
    | inr missing ↦ (
        let lt : set < 2 ^ n = below_top n set small missing in
        let day : hold * halves n h k set ≡ hold * h set = ap (λ (d : ℕ). hold * d) (halves_out n h k set missing) in
        omega (arith, halves_out n r s set missing, low set lt, halves_out n a c set missing, halves_out n f g set missing, day, step_out set lt))
  ]
