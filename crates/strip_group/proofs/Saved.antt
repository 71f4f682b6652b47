-- Savings by sets of places: those of the sets without a place and those with it.
use Rattle.std.proofs.Common.{◌≡◌, ◌≢◌, ℕ, zero, suc, ◌+◌, ◌*◌, ◌^◌, ◌<◌, ◌≤◌, ◌⊎◌, true, false}
use Rattle.std.proofs.Common.{max, List, length, slice_index, sum, refl, sym, ap, ◌∙◌, subst, inl, inr, arith}
use Rattle.std.proofs.lemmas.Bool.{cases_lt, cases_eq, false≢true, cases_Bool}
use Rattle.std.proofs.lemmas.Nat.{mul-le}
use Rattle.strip_mask.specs.Set.{IsSet, full, has, meet, sum_over, with, without}
use Rattle.strip_mask.proofs.ByMembers.{below_width, has-empty, has-without_other, has-without_same, has_from_without, without_swap}
use Rattle.strip_mask.proofs.Below.{LiesBelow-full, full-more, has_full}
use Rattle.strip_mask.proofs.Totals.{sum_over-with, sum_over-without, sum_over_mono, sum_over_le_sum}
use Rattle.strip_group.specs.Saved.{HasRoom, IsSavedMost, Saves, left_by}
use Rattle.strip_group.proofs.Left.{has_from_left, left_out, left_with, left_without}
use Rattle.strip_group.proofs.Places.{slice_le_sum}
use Rattle.strip_sets.proofs.Sets.{below_top, halves_at, halves_out, halves_with, lacks_top, lies_small, with_top, without_less, without_top, wider_top}
use Rattle.strip_sets.specs.Numbers.{halves}

-- ---- savings

-- each of two parts saves at most, and the part with the place may do so after the other
module _ (n : ℕ) (rates : List ℕ) (days_out days_in alone_out alone_in saved_out after saved_in : ℕ → ℕ) (low : Saves n rates days_out alone_out saved_out)
    (mid : (set : ℕ) → set < 2 ^ n → after set ≡ max (alone_in set) (saved_out set + slice_index rates n * days_in set)) (high : Saves n rates days_in after saved_in) where
  abbrev days : ℕ → ℕ
  days = halves n days_out days_in

  abbrev alone : ℕ → ℕ
  alone = halves n alone_out alone_in

  abbrev saved : ℕ → ℕ
  saved = halves n saved_out saved_in

  -- a set without the place, by another place
  out_more : (set place : ℕ) → has set n ≡ false → saved (without set place) ≡ saved_out (without set place)
  out_more set place missing = halves_out n saved_out saved_in (without set place) (elim (cases_eq place n) [
    | inl is ↦ subst (λ (k : ℕ). has (without set k) n ≡ false) (sym is) (has-without_same set n)
    | inr other ↦ has-without_other set place n other ∙ missing
  ])

  -- a set with the place, by another place
  in_more : (set place : ℕ) → has set n ≡ true → place ≢ n → saved (without set place) ≡ saved_in (without (without set n) place)
  in_more set place there other = halves_with n saved_out saved_in (without set place) (has-without_other set place n other ∙ there) ∙ ap saved_in (without_swap set place n)

  -- and by the place itself
  by_top : (set : ℕ) → saved (without set n) ≡ saved_out (without set n)
  by_top set = halves_out n saved_out saved_in (without set n) (has-without_same set n)

  after_is : (set : ℕ) → set < 2 ^ suc n → after (without set n) ≡ max (alone_in (without set n)) (saved_out (without set n) + slice_index rates n * days_in (without set n))
  after_is set small = mid (without set n) (without_top n set small)

  least_alone : (set : ℕ) → set < 2 ^ suc n → alone set ≤ saved set
  least_alone set small = elim (cases_Bool (has set n)) [
    | inl there ↦ (
        let le : after (without set n) ≤ saved_in (without set n) = high.alone_least (without set n) (without_top n set small) in
        omega (arith, halves_with n alone_out alone_in set there, halves_with n saved_out saved_in set there, le, after_is set small))
    | inr missing ↦ (
        let le : alone_out set ≤ saved_out set = low.alone_least set (below_top n set small missing) in
        omega (arith, halves_out n alone_out alone_in set missing, halves_out n saved_out saved_in set missing, le))
  ]

  least_after : (set place : ℕ) → set < 2 ^ suc n → has set place ≡ true → saved (without set place) + slice_index rates place * days set ≤ saved set
  least_after set place small member = elim (cases_Bool (has set n)) [
    | inl there ↦ (
        let day : slice_index rates place * days set ≡ slice_index rates place * days_in (without set n) = ap (λ (d : ℕ). slice_index rates place * d)
        (halves_with n days_out days_in set there) in
        let here : saved set ≡ saved_in (without set n) = halves_with n saved_out saved_in set there in
        elim (cases_eq place n) [
          | inl is ↦ (
              let le : after (without set n) ≤ saved_in (without set n) = high.alone_least (without set n) (without_top n set small) in
              let top : slice_index rates place * days_in (without set n) ≡ slice_index rates n * days_in (without set n) = ap (λ (k : ℕ). slice_index rates k * days_in
              (without set n)) is in
              let less : saved (without set place) ≡ saved_out (without set n) = ap (λ (k : ℕ). saved (without set k)) is ∙ by_top set in
              omega (arith, day, here, le, top, less, after_is set small))
          | inr other ↦ (
              let le : saved_in (without (without set n) place) + slice_index rates place * days_in (without set n) ≤ saved_in (without set n)
              = high.after_least (without set n) place (without_top n set small) (has-without_other set n place (λ same. other (sym same)) ∙ member) in
              omega (arith, day, here, le, in_more set place there other))
        ])
    | inr missing ↦ (
        let day : slice_index rates place * days set ≡ slice_index rates place * days_out set = ap (λ (d : ℕ). slice_index rates place * d)
        (halves_out n days_out days_in set missing) in
        let le : saved_out (without set place) + slice_index rates place * days_out set ≤ saved_out set = low.after_least set place (below_top n set small missing) member in
        omega (arith, day, halves_out n saved_out saved_in set missing, le, out_more set place missing))
  ]

  abbrev Attained : ℕ → Type 0
  Attained set = (saved set ≡ alone set) ⊎ ((place : ℕ) × (has set place ≡ true) × (saved set ≡ saved (without set place) + slice_index rates place * days set))

  reached : (set : ℕ) → set < 2 ^ suc n → Attained set
  reached set small = elim (cases_Bool (has set n)) [
    | inl there ↦ (
        let here : saved set ≡ saved_in (without set n) = halves_with n saved_out saved_in set there in
        let day : days set ≡ days_in (without set n) = halves_with n days_out days_in set there in
        elim (high.attained (without set n) (without_top n set small)) [
          | inl begun ↦ elim (cases_lt (alone_in (without set n)) (saved_out (without set n) + slice_index rates n * days_in (without set n))) [
            | inl less ↦ inr (
              n,
              there,
              (
                  let top : slice_index rates n * days set ≡ slice_index rates n * days_in (without set n) = ap (λ (d : ℕ). slice_index rates n * d) day in
                  omega (arith, here, begun, after_is set small, less, top, by_top set)),
            )
            | inr more ↦ inl (omega (arith, here, begun, after_is set small, more, halves_with n alone_out alone_in set there))
          ]
          | inr step ↦ (
              let parts = has_from_without set n step.0 step.1 in
              let pay : slice_index rates step.0 * days set ≡ slice_index rates step.0 * days_in (without set n) = ap (λ (d : ℕ). slice_index rates step.0 * d) day in
              inr (step.0, parts.1, omega (arith, here, step.2, pay, in_more set step.0 there (λ same. parts.0 (sym same)))))
        ])
    | inr missing ↦ (
        let here : saved set ≡ saved_out set = halves_out n saved_out saved_in set missing in
        elim (low.attained set (below_top n set small missing)) [
          | inl begun ↦ inl (omega (arith, here, begun, halves_out n alone_out alone_in set missing))
          | inr step ↦ (
              let pay : slice_index rates step.0 * days set ≡ slice_index rates step.0 * days_out set = ap (λ (d : ℕ). slice_index rates step.0 * d)
              (halves_out n days_out days_in set missing) in
              inr (step.0, step.1, omega (arith, here, step.2, pay, out_more set step.0 missing)))
        ])
  ]

  pub saves_halves : Saves (suc n) rates (halves n days_out days_in) (halves n alone_out alone_in) (halves n saved_out saved_in)
  saves_halves = record { alone_least = least_alone; after_least = least_after; attained = reached }

-- ---- room

-- no set saves more than at its rates on all days
module _ (n all_days before : ℕ) (few : n ≤ 6) (rates : List ℕ) (days alone saved : ℕ → ℕ) (saves : Saves n rates days alone saved)
    (small : (set : ℕ) → set < 2 ^ n → days set ≤ all_days) (begun : (set : ℕ) → set < 2 ^ n → alone set ≤ before + sum_over rates set * all_days) where
  low_set : (set : ℕ) → set < 2 ^ n → IsSet set
  low_set set lt = lies_small 64 set (λ i there. (let below : i < n = below_width set n i lt there in omega (arith, below, few)))

  pub saved_small : (set : ℕ) → set < 2 ^ n → saved set ≤ before + sum_over rates set * all_days
  saved_small set lt = up_to (suc set) set (omega arith) lt
    where
      up_to : (m set : ℕ) → set < m → set < 2 ^ n → saved set ≤ before + sum_over rates set * all_days
      up_to zero set bound lt = absurd (omega (arith, bound))
      up_to (suc m) set bound lt = elim (saves.attained set lt) [
        | inl alone_is ↦ omega (arith, alone_is, begun set lt)
        | inr step ↦ (
            let less : without set step.0 < set = without_less set step.0 step.1 in
            let rest : saved (without set step.0) ≤ before + sum_over rates (without set step.0) * all_days = up_to m (without set step.0) (omega (arith, less, bound)) (omega
            (arith, less, lt)) in
            let sum : sum_over rates (without set step.0) + slice_index rates step.0 ≡ sum_over rates set = sum_over-without rates set step.0 (low_set set lt) step.1 in
            let whole : sum_over rates set * all_days ≡ sum_over rates (without set step.0) * all_days + slice_index rates step.0 * all_days
            = ap (λ (s : ℕ). s * all_days) (sym sum) ∙ grind arith in
            let pay : slice_index rates step.0 * days set ≤ slice_index rates step.0 * all_days = mul-le (slice_index rates step.0) (days set)
            (slice_index rates step.0) all_days (omega arith) (small set lt) in
            omega (arith, step.2, rest, whole, pay))
      ]

-- the room of both parts
module _ (n most : ℕ) (few : suc n ≤ 6) (rates : List ℕ) (days_out days_in alone_out alone_in : ℕ → ℕ) (room : HasRoom (suc n) most rates (halves n days_out days_in)
    (halves n alone_out alone_in)) where
  top_sum : (set : ℕ) → set < 2 ^ n → sum_over rates (with set n) * room.all_days ≡ sum_over rates set * room.all_days + slice_index rates n * room.all_days
  top_sum set lt = ap (λ (s : ℕ). s * room.all_days) (sum_over-with rates set n (omega (arith, few)) (lacks_top n set lt)) ∙ grind arith

  full_sum : sum_over rates (full (suc n)) * room.all_days ≡ sum_over rates (full n) * room.all_days + slice_index rates n * room.all_days
  full_sum = ap (λ (s : ℕ). sum_over rates s * room.all_days) (full-next n) ∙ top_sum (full n) (lies_small n (full n) (LiesBelow-full n))
    where
      full-next : (n : ℕ) → full (suc n) ≡ with (full n) n
      full-next n = (let next : suc n ≡ n + 1 = omega arith in ap full next) ∙ full-more n

  part_sum : (set : ℕ) → set < 2 ^ n → sum_over rates set * room.all_days ≤ sum_over rates (full n) * room.all_days
  part_sum set lt = mul-le (sum_over rates set) room.all_days (sum_over rates (full n)) room.all_days
      (sum_over_mono rates set (full n) (λ i there. has_full n i (below_width set n i lt there))) (omega arith)

  small_out : (set : ℕ) → set < 2 ^ n → days_out set ≤ room.all_days
  small_out set lt = omega (arith, room.small set (wider_top n set lt), halves_out n days_out days_in set (lacks_top n set lt))

  small_in : (set : ℕ) → set < 2 ^ n → days_in set ≤ room.all_days
  small_in set lt = omega (arith, room.small (with set n) (with_top n set lt), halves_at n days_out days_in set lt)

  begun_out : (set : ℕ) → set < 2 ^ n → alone_out set ≤ room.before + sum_over rates set * room.all_days
  begun_out set lt = omega (arith, room.begun set (wider_top n set lt), halves_out n alone_out alone_in set (lacks_top n set lt))

  pub room_out : HasRoom n most rates days_out alone_out
  room_out = record {
    all_days = room.all_days;
    before = room.before;
    small = small_out;
    begun = begun_out;
    fits = omega (arith, room.fits, full_sum);
    rate = room.rate;
  }

  module _ (saved_out : ℕ → ℕ) (low : Saves n rates days_out alone_out saved_out) where
    saved_most : (set : ℕ) → set < 2 ^ n → saved_out set ≤ room.before + sum_over rates set * room.all_days
    saved_most set lt = saved_small n room.all_days room.before (omega (arith, few)) rates days_out alone_out saved_out low small_out begun_out set lt

    top_pay : (set : ℕ) → set < 2 ^ n → slice_index rates n * days_in set ≤ slice_index rates n * room.all_days
    top_pay set lt = mul-le (slice_index rates n) (days_in set) (slice_index rates n) room.all_days (omega arith) (small_in set lt)

    pub after_fits : (set : ℕ) → set < 2 ^ n → saved_out set + slice_index rates n * days_in set ≤ most
    after_fits set lt = omega (arith, saved_most set lt, top_pay set lt, part_sum set lt, full_sum, room.fits)

    pub room_in : (after : ℕ → ℕ) → ((set : ℕ) → set < 2 ^ n → after set ≡ max (alone_in set) (saved_out set + slice_index rates n * days_in set))
        → HasRoom n most rates days_in after
    room_in after mid = record {
      all_days = room.all_days;
      before = room.before + slice_index rates n * room.all_days;
      small = small_in;
      begun = λ set lt. (
          let alone_most : alone_in set ≤ room.before + sum_over rates (with set n) * room.all_days = omega (
            arith,
            room.begun (with set n)
                (with_top n set lt),
            halves_at n alone_out alone_in set lt,
          ) in
          omega (arith, mid set lt, alone_most, top_sum set lt, saved_most set lt, top_pay set lt));
      fits = omega (arith, room.fits, full_sum);
      rate = room.rate;
    }

-- ---- numbers of all sets by those of the parts

module _ (n : ℕ) (f g : ℕ → ℕ) where
  module _ (h k : ℕ → ℕ) (rate most : ℕ) (fits : (set : ℕ) → set < 2 ^ suc n → halves n f g set + rate * halves n h k set ≤ most) where
    pub fits_out : (set : ℕ) → set < 2 ^ n → f set + rate * h set ≤ most
    fits_out set small =
        let pay : rate * halves n h k set ≡ rate * h set = ap (λ (d : ℕ). rate * d) (halves_out n h k set (lacks_top n set small)) in
        omega (arith, pay, halves_out n f g set (lacks_top n set small), fits set (wider_top n set small))

    pub fits_in : (set : ℕ) → set < 2 ^ n → g set + rate * k set ≤ most
    fits_in set small =
        let pay : rate * halves n h k (with set n) ≡ rate * k set = ap (λ (d : ℕ). rate * d) (halves_at n h k set small) in
        omega (arith, pay, halves_at n f g set small, fits (with set n) (with_top n set small))

  pub after_halves : (h k a b r s : ℕ → ℕ) (rate : ℕ) → ((set : ℕ) → set < 2 ^ n → r set ≡ max (a set) (f set + rate * h set)) → ((set : ℕ) → set < 2 ^ n → s set ≡ max
      (b set) (g set + rate * k set))
      → (set : ℕ) → set < 2 ^ suc n → halves n r s set ≡ max (halves n a b set) (halves n f g set + rate * halves n h k set)
  after_halves h k a b r s rate out in_it set small = elim (cases_Bool (has set n)) [
    | inl there ↦ (
        let pay : rate * halves n h k set ≡ rate * k (without set n) = ap (λ (d : ℕ). rate * d) (halves_with n h k set there) in
        omega (arith, pay, halves_with n r s set there, halves_with n a b set there, halves_with n f g set there, in_it (without set n) (without_top n set small)))
    | inr missing ↦ (
        let pay : rate * halves n h k set ≡ rate * h set = ap (λ (d : ℕ). rate * d) (halves_out n h k set missing) in
        omega (arith, pay, halves_out n r s set missing, halves_out n a b set missing, halves_out n f g set missing, out set (below_top n set small missing)))
  ]

  pub days_halves : (r s : ℕ → ℕ) (table stays : List ℕ) (scenes left : ℕ) → left ≡ meet scenes (slice_index stays n)
      → ((set : ℕ) → set < 2 ^ n → r set ≡ f set + slice_index table (left_by stays n set scenes)) → ((set : ℕ) → set < 2 ^ n → s set ≡ g set + slice_index table
      (left_by stays n set left))
      → (set : ℕ) → set < 2 ^ suc n → halves n r s set ≡ halves n f g set + slice_index table (left_by stays (suc n) set scenes)
  days_halves r s table stays scenes left is out in_it set small = elim (cases_Bool (has set n)) [
    | inl there ↦ (
        let same : left_by stays n (without set n) left ≡ left_by stays (suc n) set scenes = left_without stays n set left ∙ ap (left_by stays n set) is ∙ sym
        (left_with stays n set scenes there) in
        omega (arith, halves_with n r s set there, halves_with n f g set there, in_it (without set n) (without_top n set small), ap (slice_index table) same))
    | inr missing ↦ omega (
      arith,
      halves_out n r s set missing,
      halves_out n f g set missing,
      out set (below_top n set small missing),
      ap (slice_index table)
          (left_out stays n set scenes missing),
    )
  ]

-- no place saves what it saves alone
pub saves_none : (rates : List ℕ) (days alone : ℕ) → Saves 0 rates (λ set. days) (λ set. alone) (λ set. alone)
saves_none rates days alone = record {
  alone_least = λ set small. omega arith;
  after_least = λ set place small there. (let none : set ≡ 0 = omega (arith, small) in absurd (false≢true (sym (has-empty place) ∙ ap (λ (s : ℕ). has s place) (sym none)
      ∙ there)));
  attained = λ set small. inl refl;
}

-- the same of days and savings alone that agree
pub saves_same : (n : ℕ) (rates : List ℕ) (days also_days alone also_alone saved : ℕ → ℕ) → ((set : ℕ) → set < 2 ^ n → days set ≡ also_days set) → ((set : ℕ) → set < 2 ^ n
    → alone set ≡ also_alone set)
    → Saves n rates days alone saved → Saves n rates also_days also_alone saved
saves_same n rates days also_days alone also_alone saved same_days same_alone saves = record {
  alone_least = λ set small. omega (arith, saves.alone_least set small, same_alone set small);
  after_least = λ set place small there. omega (arith, saves.after_least set place small there, ap (λ (d : ℕ). slice_index rates place * d) (same_days set small));
  attained = λ set small. elim (saves.attained set small) [
    | inl is ↦ inl (is ∙ same_alone set small)
    | inr step ↦ inr (step.0, step.1, omega (arith, step.2, ap (λ (d : ℕ). slice_index rates step.0 * d) (same_days set small)))
  ];
}

-- of six places
pub saved_of_six : (places : ℕ) → places ≡ 6 → (rates values stays : List ℕ) (scenes most : ℕ) (days alone saved : ℕ → ℕ) → Saves places rates days alone saved
    → ((set : ℕ) → set < 2 ^ places → days set ≡ sum_over values (left_by stays places set scenes)) → ((set : ℕ) → set < 2 ^ places → alone set ≡ 0) → most ≡ saved (full places)
    → IsSavedMost rates (λ set. sum_over values (left_by stays 6 set scenes)) most
saved_of_six places six rates values stays scenes most days alone saved saves told none is = record {
  saved = saved;
  saves = saves_same 6 rates days (λ set. sum_over values (left_by stays 6 set scenes)) alone (λ _. 0) saved
      (λ set lt. told set (back set lt) ∙ ap (λ (p : ℕ). sum_over values (left_by stays p set scenes)) six) (λ set lt. none set (back set lt)) (subst (λ
      (p : ℕ). Saves p rates days alone saved) six saves);
  is = is ∙ ap (λ (p : ℕ). saved (full p)) six;
}
  where
    back : (set : ℕ) → set < 2 ^ 6 → set < 2 ^ places
    back set lt = subst (λ (p : ℕ). set < 2 ^ p) (sym six) lt

-- the room of places that save nothing alone
pub room_of : (places most : ℕ) (rates values stays : List ℕ) (scenes : ℕ) (days alone : ℕ → ℕ) → ((set : ℕ) → set < 2 ^ places → days set ≡ sum_over values
    (left_by stays places set scenes))
    → ((set : ℕ) → set < 2 ^ places → alone set ≡ 0) → places ≤ 6 → length rates ≤ 64 → sum rates ≤ most → sum rates * sum_over values scenes ≤ most
    → HasRoom places most rates days alone
room_of places most rates values stays scenes days alone told none few short rate fits = record {
  all_days = sum_over values scenes;
  before = 0;
  small = λ set lt. (let less : sum_over values (left_by stays places set scenes) ≤ sum_over values scenes = sum_over_mono values (left_by stays places set scenes) scenes
      (λ i there. (has_from_left stays places set scenes i there).0) in
      omega (arith, told set lt, less));
  begun = λ set lt. (let nothing = none set lt in omega (arith, nothing));
  fits = (let within : sum_over rates (full places) * sum_over values scenes ≤ sum rates * sum_over values scenes
      = mul-le (sum_over rates (full places)) (sum_over values scenes) (sum rates) (sum_over values scenes) (sum_over_le_sum rates (full places) short) (omega arith) in omega
      (arith, within, fits));
  rate = λ place. (let within = slice_le_sum rates place in omega (arith, within, rate));
}
