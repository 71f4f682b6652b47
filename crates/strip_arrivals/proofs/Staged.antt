-- The rows of stages, by a pass over the sets of places: what a day costs by who is here, and how many classes of scenes there are.
use Rattle.std.proofs.Common.{◌≡◌, ℕ, zero, suc, ◌+◌, ◌*◌, ◌-◌, ◌^◌, ◌<◌, ◌≤◌, true, min, List, [], ◌∷◌, slice_index, sym, ap, ◌∙◌, arith}
use Rattle.std.proofs.Math.Nat.{min-le_left, min-le_right}
use Rattle.strip_mask.specs.Set.{has, size, sum_over, with, without}
use Rattle.strip_mask.proofs.ByMembers.{has-with_other, has-with_same, empty_has}
use Rattle.strip_group.specs.Group.{GroupData}
use Rattle.strip_sets.specs.Saving.{owes}
use Rattle.strip_sets.specs.declared.terms.Classes.{Classes}
use Rattle.strip_sets.proofs.FourSets.{by_four}
use Rattle.strip_sets.proofs.Sets.{without_less}
use Rattle.strip_arrivals.specs.Company.{AreBoth, ArePair, ArePrices, IsNewcomer, IsParty, IsStage, staying}
use Rattle.strip_arrivals.specs.Gross.{IsGross}
use Rattle.strip_arrivals.specs.declared.party.Both.{Both}
use Rattle.strip_arrivals.specs.declared.party.Newcomer.{Newcomer}
use Rattle.strip_arrivals.specs.declared.party.Party.{Party}
use Rattle.strip_arrivals.proofs.Among.{for_two}
use Rattle.strip_arrivals.proofs.Chosen.{sum_four, sum_one, sum_two}
use Rattle.strip_arrivals.proofs.Classes.{AreDays, AreKinds, kinds_none, kinds_one, kinds_two, leaving_free}
use Rattle.strip_arrivals.proofs.Masks.{has_one, two}
use Rattle.strip_arrivals.proofs.Passing.{row_least}
use Rattle.strip_arrivals.proofs.Prices.{price_alone, price_both, price_first, price_neither, price_second, price_with, price_without}
use Rattle.strip_arrivals.proofs.Fits.{all_rates, class_days, days_rise, hold_low, holds_low, rates_low}
use Rattle.strip_arrivals.proofs.Lowered.{IsBegun, IsLowered}

-- of one class
pub for_one : (P : ℕ → Type 0) → P 0 → (kind : ℕ) → kind < 1 → P kind
for_one P first zero lt = first
for_one P first (suc n) lt = absurd (omega (arith, lt))

-- the same for each class, and those of two
abbrev pub same_of : {S : Type 0} → S → Classes S
same_of each = record { first = each; second = each }

abbrev pub two_of : {S : Type 0} → S → S → Classes S
two_of first second = record { first = first; second = second }

-- one place less leaves a set of the same places
wider_less : (count places place : ℕ) → places < 2 ^ count → has places place ≡ true → without places place < 2 ^ count
wider_less count places place lt there = (let less = without_less places place there in omega (arith, less, lt))

-- what a step costs, by the rates of all and what each class costs more
one_class : (rate more : ℕ) → rate * more ≡ rate * more + 0 + (0 - 0)
one_class rate more = omega arith

two_classes : (rate extra free own now_free now_own : ℕ) → free ≤ now_free → own ≤ now_own
    → (rate + extra) * (now_free - free) + rate * (now_own - own) ≡ rate * (now_free + now_own - (free + own)) + extra * (now_free - free) + (0 - 0)
two_classes rate extra free own now_free now_own rise rise_own =
    let all : now_free + now_own - (free + own) ≡ (now_free - free) + (now_own - own) = omega (arith, rise, rise_own) in
    spread rate extra (now_free - free) (now_own - own) ∙ ap (λ (days : ℕ). rate * days + extra * (now_free - free) + (0 - 0)) (sym all)
  where
    spread : (rate extra free own : ℕ) → (rate + extra) * free + rate * own ≡ rate * (free + own) + extra * free + (0 - 0)
    spread rate extra free own = omega arith

four_classes : (rate neither extra hold free one other both now_free now_one now_other now_both : ℕ)
    → free ≤ now_free → one ≤ now_one → other ≤ now_other → both ≤ now_both
    → (rate + neither) * (now_free - free) + (rate + extra) * (now_one - one) + (rate + hold) * (now_other - other) + rate * (now_both - both)
    ≡ rate * (now_free + now_one + now_other + now_both - (free + one + other + both)) + (neither * (now_free - free) + extra * (now_one - one))
    + (hold * now_other - hold * other)
four_classes rate neither extra hold free one other both now_free now_one now_other now_both rise rise_one rise_other rise_both =
    let all : now_free + now_one + now_other + now_both - (free + one + other + both) ≡ (now_free - free) + (now_one - one) + (now_other - other) + (now_both - both)
    = omega (arith, rise, rise_one, rise_other, rise_both) in
    let held : hold * now_other - hold * other ≡ hold * (now_other - other) = apart hold other now_other rise_other in
    spread rate neither extra hold (now_free - free) (now_one - one) (now_other - other) (now_both - both)
    ∙ (λ i. rate * sym all i + (neither * (now_free - free) + extra * (now_one - one)) + sym held i)
  where
    spread : (rate neither extra hold free one other both : ℕ)
        → (rate + neither) * free + (rate + extra) * one + (rate + hold) * other + rate * both
        ≡ rate * (free + one + other + both) + (neither * free + extra * one) + hold * other
    spread rate neither extra hold free one other both = omega arith

    apart : (hold before now : ℕ) → before ≤ now → hold * now - hold * before ≡ hold * (now - before)
    apart hold before now rise =
        let parts : hold * now ≡ hold * (now - before) + hold * before = ap (λ (n : ℕ). hold * n) (omega (arith, rise)) ∙ both_parts hold (now - before) before in
        omega (arith, parts)
      where
        both_parts : (hold more before : ℕ) → hold * (more + before) ≡ hold * more + hold * before
        both_parts hold more before = omega arith

module _ {B : Type 0} (value : List B → ℕ → ℕ) (count most : ℕ) (film : GroupData) (party : Party B) (known : IsParty value count most film party) where
  abbrev set : ℕ
  set = party.crew.now.set.0

  abbrev group : ℕ
  group = party.crew.now.group.0

  abbrev newcomers : ℕ
  newcomers = party.newcomers.0

  -- what those who are still here get
  abbrev pub rates : ℕ → ℕ
  rates places = sum_over party.crew.now.holds places

  module _ (coming : ℕ) (here : List ℕ) (gone : ℕ) (stage : IsStage newcomers coming here gone) (classes : ℕ) (kinds : ℕ → ℕ) (are_kinds : AreKinds here classes kinds)
      (prices days : ℕ → ℕ → ℕ) (are_prices : (kind : ℕ) → kind < classes → ArePrices film set group count coming here gone (kinds kind) (prices kind))
      (are_days : (kind : ℕ) → kind < classes → AreDays film set group newcomers known.company count known.crew.fits (kinds kind) (days kind))
      (first least : ℕ → ℕ) (begun : IsBegun film set group party.never coming here gone first) where
    -- nobody is still to come
    pub free_row : coming ≡ 0 → IsLowered count (owes classes prices days) first least → (places : ℕ) → places < 2 ^ size group
        → IsGross film set group (staying group coming here gone places) (least places)
    free_row none lowered = row_least film set group newcomers party.never known.company known.enough coming here gone stage count (owes classes prices days) first least
        known.crew.fits lowered begun
        (leaving_free film set group newcomers known.company count known.crew.fits coming here gone stage classes kinds are_kinds prices days are_prices are_days none)

  pub rates_all_low : (places : ℕ) → places < 2 ^ count → rates places ≤ all_rates value count most film party known
  rates_all_low places lt = (let low = rates_low value count most film party known places lt in omega (arith, low))

  -- ---- nobody of the newcomers is here

  abbrev pub alone_weights : ℕ → ℕ → ℕ
  alone_weights kind places = slice_index (rates places ∷ []) kind

  abbrev pub alone_days_of : ℕ → ℕ → ℕ
  alone_days_of kind places = slice_index (value party.days.now places ∷ []) kind

  pub alone_prices : (gone kind : ℕ) → kind < 1 → ArePrices film set group count 0 [] gone (slice_index (0 ∷ []) kind) (alone_weights kind)
  alone_prices gone = for_one (λ kind. ArePrices film set group count 0 [] gone (slice_index (0 ∷ []) kind) (alone_weights kind))
      (price_alone film set group newcomers known.company count rates known.crew.rates 0 gone 0)

  pub alone_days : (kind : ℕ) → kind < 1 → AreDays film set group newcomers known.company count known.crew.fits (slice_index (0 ∷ []) kind) (alone_days_of kind)
  alone_days = for_one (λ kind. AreDays film set group newcomers known.company count known.crew.fits (slice_index (0 ∷ []) kind) (alone_days_of kind)) known.days

  pub free_days_few : (places : ℕ) → places < 2 ^ count → value party.days.now places ≤ sum_over film.days set
  free_days_few places lt =
      let few = class_days value count most film party known [] 1 (slice_index (0 ∷ [])) alone_days_of kinds_none alone_days places lt in
      omega (arith, few, sum_one (λ kind. alone_days_of kind places))

  pub free_rise : (places place : ℕ) → places < 2 ^ count → has places place ≡ true → value party.days.now (without places place) ≤ value party.days.now places
  free_rise = days_rise value count most film party known 0 (value party.days.now) known.days

  pub alone_costs : (owed : ℕ → ℕ → ℕ) → ((set before : ℕ) → owed set before ≡ 0) → (places place : ℕ) → places < 2 ^ count → has places place ≡ true
      → owes 1 alone_weights alone_days_of places (without places place)
      ≡ rates places * (value party.days.now places - value party.days.now (without places place)) + owed places (without places place) + (0 - 0)
  alone_costs owed free places place lt there =
      let before : ℕ = without places place in
      sum_one (λ kind. alone_weights kind places * (alone_days_of kind places - alone_days_of kind before))
      ∙ one_class (rates places) (value party.days.now places - value party.days.now before)
      ∙ ap (λ (n : ℕ). rates places * (value party.days.now places - value party.days.now before) + n + (0 - 0)) (sym (free places before))

  -- ---- one newcomer

  module _ (one : Newcomer B) (told : IsNewcomer value count film party one) where
    abbrev pub one_weights : ℕ → ℕ → ℕ
    one_weights kind places = slice_index ((rates places + value one.extra.now places) ∷ rates places ∷ []) kind

    abbrev pub one_days_of : ℕ → ℕ → ℕ
    one_days_of kind places = slice_index (value party.days.now places ∷ value one.days.now places ∷ []) kind

    pub one_prices : (gone kind : ℕ) → kind < 2
        → ArePrices film set group count 0 (one.actor ∷ []) gone (slice_index (0 ∷ with 0 one.actor ∷ []) kind) (one_weights kind)
    one_prices gone = for_two (λ kind. ArePrices film set group count 0 (one.actor ∷ []) gone (slice_index (0 ∷ with 0 one.actor ∷ []) kind) (one_weights kind))
        (price_without film set group newcomers known.company count rates known.crew.rates 0 gone one.actor told.comes 0 told.mates
        (λ places. rates places + value one.extra.now places) (λ works. empty_has one.actor works) told.are_mates
        (λ places lt. ap (λ (n : ℕ). rates places + n) (told.extra places lt ∙ ap (min (told.mates places)) told.hold)))
        (price_with film set group newcomers known.company count rates known.crew.rates 0 gone one.actor told.comes (with 0 one.actor) (has-with_same 0 one.actor))

    pub one_days : (kind : ℕ) → kind < 2
        → AreDays film set group newcomers known.company count known.crew.fits (slice_index (0 ∷ with 0 one.actor ∷ []) kind) (one_days_of kind)
    one_days = for_two (λ kind. AreDays film set group newcomers known.company count known.crew.fits (slice_index (0 ∷ with 0 one.actor ∷ []) kind) (one_days_of kind))
        known.days told.days

    pub own_rise : (places place : ℕ) → places < 2 ^ count → has places place ≡ true → value one.days.now (without places place) ≤ value one.days.now places
    own_rise = days_rise value count most film party known (with 0 one.actor) (value one.days.now) told.days

    -- all days of a stage in which he alone is here
    pub all_few : (places : ℕ) → places < 2 ^ count → value one.all.now places ≤ sum_over film.days set
    all_few places lt =
        let few = class_days value count most film party known (one.actor ∷ []) 2 (slice_index (0 ∷ with 0 one.actor ∷ [])) one_days_of (kinds_one one.actor) one_days places lt in
        omega (arith, few, sum_two (λ kind. one_days_of kind places), told.all places lt)

    pub own_few : (places : ℕ) → places < 2 ^ count → value one.days.now places ≤ sum_over film.days set
    own_few places lt = (let few = all_few places lt in omega (arith, few, told.all places lt))

    pub all_rise : (places place : ℕ) → places < 2 ^ count → has places place ≡ true → value one.all.now (without places place) ≤ value one.all.now places
    all_rise places place lt there =
        let before = told.all (without places place) (wider_less count places place lt there) in
        omega (arith, before, told.all places lt, free_rise places place lt there, own_rise places place lt there)

    -- what a day costs more
    pub extra_low : (places : ℕ) → places < 2 ^ count → value one.extra.now places ≤ one.hold
    extra_low places lt = (let least = min-le_right (told.mates places) one.hold in omega (arith, told.extra places lt, least))

    pub hold_all_low : one.hold ≤ all_rates value count most film party known
    hold_all_low = (let low = hold_low value count most film party known one.actor told.comes in omega (arith, low, told.hold))

    pub one_costs : (owed : ℕ → ℕ → ℕ)
        → ((set before : ℕ) → owed set before ≡ value one.extra.now set * (value party.days.now set - value party.days.now before))
        → (places place : ℕ) → places < 2 ^ count → has places place ≡ true
        → owes 2 one_weights one_days_of places (without places place)
        ≡ rates places * (value one.all.now places - value one.all.now (without places place)) + owed places (without places place) + (0 - 0)
    one_costs owed is_owed places place lt there =
        let before : ℕ = without places place in
        sum_two (λ kind. one_weights kind places * (one_days_of kind places - one_days_of kind before))
        ∙ two_classes (rates places) (value one.extra.now places) (value party.days.now before) (value one.days.now before) (value party.days.now places) (value one.days.now places)
        (free_rise places place lt there) (own_rise places place lt there)
        ∙ (λ i. rates places * (sym (told.all places lt) i - sym (told.all before (wider_less count places place lt there)) i) + sym (is_owed places before) i + (0 - 0))

  -- ---- two

  module _ (one other : Newcomer B) (both : Both B) (told : IsNewcomer value count film party one) (told_too : IsNewcomer value count film party other) (pair : ArePair newcomers one.actor other.actor)
      (of_both : AreBoth value count film party one other both) where
    -- who works there of the two
    off_first : has (with 0 other.actor) one.actor ≡ true → ⊥
    off_first there = empty_has one.actor (sym (has-with_other 0 other.actor one.actor (λ same. pair.apart (sym same))) ∙ there)

    off_second : has (with 0 one.actor) other.actor ≡ true → ⊥
    off_second there = empty_has other.actor (sym (has-with_other 0 one.actor other.actor pair.apart) ∙ there)

    -- the days of all open scenes
    pub all_open_few : (places : ℕ) → places < 2 ^ count → value both.all.now places ≤ sum_over film.days set
    all_open_few places lt =
        let kinds : ℕ → ℕ = slice_index (0 ∷ with 0 one.actor ∷ with 0 other.actor ∷ two one.actor other.actor ∷ []) in
        let days : ℕ → ℕ → ℕ = λ kind at. slice_index (value party.days.now at ∷ value one.days.now at ∷ value other.days.now at ∷ of_both.days at ∷ []) kind in
        let few = class_days value count most film party known (one.actor ∷ other.actor ∷ []) 4 kinds days (kinds_two one.actor other.actor pair.apart)
        (by_four (λ kind. AreDays film set group newcomers known.company count known.crew.fits (kinds kind) (days kind)) known.days told.days told_too.days of_both.are_days) places lt in
        omega (arith, few, sum_four (λ kind. days kind places), of_both.all places lt)

    module _ (neither : List B) (is_neither : (places : ℕ) → places < 2 ^ count → value neither places ≡ min (value other.extra.now places + one.hold) (value both.mates.now places)) where
      abbrev pub two_kinds : ℕ → ℕ
      two_kinds = slice_index (0 ∷ with 0 one.actor ∷ with 0 other.actor ∷ two one.actor other.actor ∷ [])

      abbrev pub two_weights : ℕ → ℕ → ℕ
      two_weights kind places = slice_index ((rates places + value neither places) ∷ (rates places + value other.extra.now places) ∷ (rates places + one.hold) ∷ rates places ∷ []) kind

      abbrev pub two_days_of : ℕ → ℕ → ℕ
      two_days_of kind places = slice_index (value party.days.now places ∷ value one.days.now places ∷ value other.days.now places ∷ of_both.days places ∷ []) kind

      pub two_prices : (kind : ℕ) → kind < 4 → ArePrices film set group count 0 (one.actor ∷ other.actor ∷ []) 0 (two_kinds kind) (two_weights kind)
      two_prices = by_four (λ kind. ArePrices film set group count 0 (one.actor ∷ other.actor ∷ []) 0 (two_kinds kind) (two_weights kind))
          (price_neither film set group newcomers known.company count rates known.crew.rates 0 0 one.actor told.comes other.actor told_too.comes pair.apart 0
          told_too.mates (value both.mates.now) (λ places. rates places + value neither places) (λ works. empty_has one.actor works) (λ works. empty_has other.actor works)
          told_too.are_mates of_both.are_mates
          (λ places lt. ap (λ (n : ℕ). rates places + n) (is_neither places lt
          ∙ least_of (value both.mates.now places) one.hold (min (told_too.mates places) other.hold) (value other.extra.now places) (told_too.extra places lt)
          ∙ (λ i. min (value both.mates.now places) (told.hold i + min (told_too.mates places) (told_too.hold i))))))
          (price_first film set group newcomers known.company count rates known.crew.rates 0 0 one.actor told.comes other.actor told_too.comes pair.apart (with 0 one.actor)
          told_too.mates (λ places. rates places + value other.extra.now places) (has-with_same 0 one.actor) off_second told_too.are_mates
          (λ places lt. ap (λ (n : ℕ). rates places + n) (told_too.extra places lt ∙ ap (min (told_too.mates places)) told_too.hold)))
          (price_second film set group newcomers known.company count rates known.crew.rates 0 0 one.actor told.comes other.actor told_too.comes pair.apart (with 0 other.actor)
          (λ places. rates places + one.hold) off_first (has-with_same 0 other.actor) (λ places lt. ap (λ (n : ℕ). rates places + n) told.hold))
          (price_both film set group newcomers known.company count rates known.crew.rates 0 0 one.actor told.comes other.actor told_too.comes pair.apart (two one.actor other.actor)
          (has_one one.actor other.actor) (has-with_same (with 0 one.actor) other.actor))
        where
          least_of : (mates hold rest extra : ℕ) → extra ≡ rest → min (extra + hold) mates ≡ min mates (hold + rest)
          least_of mates hold rest extra is = omega (arith, is)

      pub two_days : (kind : ℕ) → kind < 4 → AreDays film set group newcomers known.company count known.crew.fits (two_kinds kind) (two_days_of kind)
      two_days = by_four (λ kind. AreDays film set group newcomers known.company count known.crew.fits (two_kinds kind) (two_days_of kind)) known.days told.days told_too.days of_both.are_days

      both_rise : (places place : ℕ) → places < 2 ^ count → has places place ≡ true → of_both.days (without places place) ≤ of_both.days places
      both_rise = days_rise value count most film party known (two one.actor other.actor) of_both.days of_both.are_days

      pub all_days_rise : (places place : ℕ) → places < 2 ^ count → has places place ≡ true → value both.all.now (without places place) ≤ value both.all.now places
      all_days_rise places place lt there =
          let before = of_both.all (without places place) (wider_less count places place lt there) in
          omega (
            arith,
            before,
            of_both.all places lt,
            free_rise places place lt there,
            own_rise one told places place lt there,
            own_rise other told_too places place lt there,
            both_rise places place lt there,
          )

      -- what a day of no newcomer costs more
      pub neither_low : (places : ℕ) → places < 2 ^ count → value neither places ≤ all_rates value count most film party known
      neither_low places lt =
          let together = holds_low value count most film party known one.actor other.actor told.comes told_too.comes pair.apart in
          let least = min-le_left (value other.extra.now places + one.hold) (value both.mates.now places) in
          omega (arith, together, told.hold, told_too.hold, is_neither places lt, least, extra_low other told_too places lt)

      pub two_costs : (owed : ℕ → ℕ → ℕ)
          → ((set before : ℕ) → owed set before ≡ value neither set * (value party.days.now set - value party.days.now before)
          + value other.extra.now set * (value one.days.now set - value one.days.now before))
          → (places place : ℕ) → places < 2 ^ count → has places place ≡ true
          → owes 4 two_weights two_days_of places (without places place)
          ≡ rates places * (value both.all.now places - value both.all.now (without places place)) + owed places (without places place)
          + (one.hold * value other.days.now places - one.hold * value other.days.now (without places place))
      two_costs owed is_owed places place lt there =
          let before : ℕ = without places place in
          sum_four (λ kind. two_weights kind places * (two_days_of kind places - two_days_of kind before))
          ∙ four_classes (rates places) (value neither places) (value other.extra.now places) one.hold (value party.days.now before) (value one.days.now before) (value other.days.now before)
          (of_both.days before) (value party.days.now places) (value one.days.now places) (value other.days.now places) (of_both.days places)
          (free_rise places place lt there) (own_rise one told places place lt there) (own_rise other told_too places place lt there) (both_rise places place lt there)
          ∙ (λ i. rates places * (sym (of_both.all places lt) i - sym (of_both.all before (wider_less count places place lt there)) i) + sym (is_owed places before) i
          + (one.hold * value other.days.now places - one.hold * value other.days.now before))
