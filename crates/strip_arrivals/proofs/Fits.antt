-- A party's numbers are small, and there is room for what its stages cost.
use Rattle.std.proofs.Common.{◌≡◌, ◌≢◌, ℕ, ◌+◌, ◌*◌, ◌^◌, ◌<◌, ◌≤◌, true, List, slice_index, sym, ap, ◌∙◌, arith}
use Rattle.std.proofs.Math.Nat.{mul-le-mul, mul_comm}
use Rattle.strip_mask.specs.Set.{has, sum_over, without}
use Rattle.strip_mask.specs.Sums.{sum_below}
use Rattle.strip_mask.proofs.ByMembers.{IsSet-without, has-without_other}
use Rattle.strip_mask.proofs.Totals.{sum_over_mono, sum_over-without, sum_over_le_sum}
use Rattle.strip_group.specs.Group.{GroupData}
use Rattle.strip_group.specs.Places.{pick}
use Rattle.strip_arrivals.specs.Company.{AreCounted, IsParty, just, most_paid}
use Rattle.strip_arrivals.specs.declared.party.Party.{Party}
use Rattle.strip_arrivals.proofs.Classes.{AreDays, AreKinds, counted_most, counted_rise, days_within}
use Rattle.strip_group.proofs.Places.{actor_there, has_from_pick}

module _ {B : Type 0} (value : List B → ℕ → ℕ) (count most : ℕ) (film : GroupData) (party : Party B) (known : IsParty value count most film party) where
  abbrev set : ℕ
  set = party.crew.now.set.0

  abbrev group : ℕ
  group = party.crew.now.group.0

  abbrev newcomers : ℕ
  newcomers = party.newcomers.0

  -- what all get for a day of waiting
  abbrev pub all_rates : ℕ
  all_rates = sum_over film.holds group + sum_over film.holds newcomers

  pub few_days : (scenes : ℕ) → sum_over film.days scenes ≤ 19800
  few_days scenes =
      let limits = known.company.limits in
      omega (arith, sum_over_le_sum film.days scenes (omega (arith, limits.day_count, limits.scene_count)), limits.day_sum)

  -- they fit
  pub days_fit : (scenes : ℕ) → sum_over film.days scenes ≤ most
  days_fit scenes = omega (arith, few_days scenes, known.wide)

  -- no set of places leaves more days open than there are
  pub days_low : (scenes : ℕ) (sums : ℕ → ℕ) → AreCounted film group count film.days scenes sums → (places : ℕ) → places < 2 ^ count → sums places ≤ 19800
  days_low scenes sums counted places lt = omega (arith, counted_most film group count film.days scenes sums counted places lt, few_days scenes)

  pub group_low : (actors : ℕ) → ((i : ℕ) → has actors i ≡ true → has group i ≡ true) → sum_over film.holds actors ≤ sum_over film.holds group
  group_low actors within = sum_over_mono film.holds actors group within

  pub rates_low : (places : ℕ) → places < 2 ^ count → sum_over party.crew.now.holds places ≤ sum_over film.holds group
  rates_low places lt =
      let part = group_low (pick group places) (λ i there. let found = has_from_pick group places i there in ap (has group) (sym found.3) ∙ actor_there group found.0 found.1) in
      omega (arith, known.crew.rates places lt, part)

  pub hold_low : (actor : ℕ) → has newcomers actor ≡ true → slice_index film.holds actor ≤ sum_over film.holds newcomers
  hold_low actor there = omega (arith, sum_over-without film.holds newcomers actor known.company.small_newcomers there)

  pub holds_low : (one other : ℕ) → has newcomers one ≡ true → has newcomers other ≡ true → one ≢ other
      → slice_index film.holds one + slice_index film.holds other ≤ sum_over film.holds newcomers
  holds_low one other there there_too apart =
      omega (
        arith,
        sum_over-without film.holds newcomers one known.company.small_newcomers there,
        sum_over-without film.holds (without newcomers one) other (IsSet-without newcomers one known.company.small_newcomers) (has-without_other newcomers one other apart ∙ there_too),
      )

  -- days of scenes of the set at a rate are paid for with less than never
  pub paid_low : (rate days : ℕ) → rate ≤ all_rates → days ≤ sum_over film.days set → rate * days < party.never
  paid_low rate days low few =
      let whole : rate * days ≤ all_rates * sum_over film.days set = mul-le-mul low few in
      let turned : all_rates * sum_over film.days set ≡ most_paid film set group newcomers = mul_comm all_rates (sum_over film.days set) in
      omega (arith, whole, turned, known.enough)

  -- the same for days of two kinds
  pub both_paid_low : (rate days other_rate other_days : ℕ) → rate ≤ all_rates → other_rate ≤ all_rates → days + other_days ≤ sum_over film.days set
      → rate * days + other_rate * other_days < party.never
  both_paid_low rate days other_rate other_days low low_too few =
      let same : days ≤ days = omega arith in
      let same_too : other_days ≤ other_days = omega arith in
      let one : rate * days ≤ all_rates * days = mul-le-mul low same in
      let other : other_rate * other_days ≤ all_rates * other_days = mul-le-mul low_too same_too in
      let parts : all_rates * (days + other_days) ≡ all_rates * days + all_rates * other_days = spread all_rates days other_days in
      let most = paid_low all_rates (days + other_days) (omega arith) few in
      omega (arith, one, other, parts, most)
    where
      spread : (rate days other : ℕ) → rate * (days + other) ≡ rate * days + rate * other
      spread rate days other = omega arith

  -- the days of the classes of a stage are days of the set
  pub class_days : (here : List ℕ) (classes : ℕ) (kinds : ℕ → ℕ) (days : ℕ → ℕ → ℕ) → AreKinds here classes kinds
      → ((kind : ℕ) → kind < classes → AreDays film set group newcomers known.company count known.crew.fits (kinds kind) (days kind))
      → (places : ℕ) → places < 2 ^ count → sum_below classes (λ kind. days kind places) ≤ sum_over film.days set
  class_days here classes kinds days are_kinds are_days = days_within film set group newcomers known.company count known.crew.fits here classes kinds days are_kinds are_days

  -- and rise with the places
  pub days_rise : (these : ℕ) (days : ℕ → ℕ) → AreDays film set group newcomers known.company count known.crew.fits these days
      → (places place : ℕ) → places < 2 ^ count → has places place ≡ true → days (without places place) ≤ days places
  days_rise these days are_days = counted_rise film group count film.days (just film newcomers these set) days are_days
