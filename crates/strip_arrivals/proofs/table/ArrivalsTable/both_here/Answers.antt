use Rattle.std.proofs.Common.{length, ◌≡◌, ℕ, ◌+◌, ◌*◌, ◌-◌, ◌^◌, ◌<◌, ◌≤◌, true, max, min, List, [], ◌∷◌, refl, slice_index, ap, ◌∙◌, arith}
use Rattle.std.proofs.Math.Nat.{mul-le-mul_left, pow-le-pow_right}
use Rattle.strip_mask.specs.Set.{has, size, sum_over, with, without}
use Rattle.strip_mask.proofs.ByMembers.{has-with_same}
use Rattle.strip_group.specs.Group.{GroupData}
use Rattle.strip_sets.specs.Numbers.{number, by_class}
use Rattle.strip_sets.specs.Saving.{Saves, SavingRoom, owes}
use Rattle.strip_arrivals.proofs.Among.{for_two}
use Rattle.strip_arrivals.proofs.Begun.{begun_both_here}
use Rattle.strip_arrivals.proofs.Chosen.{sum_two}
use Rattle.strip_arrivals.proofs.Classes.{either_goes, kinds_two}
use Rattle.strip_arrivals.proofs.Masks.{has_one}
use Rattle.strip_arrivals.proofs.Fits.{both_paid_low, paid_low}
use Rattle.strip_arrivals.proofs.Saved.{lowered, within}
use Rattle.strip_arrivals.proofs.Staged.{all_open_few, all_days_rise, all_few, extra_low, free_rise, free_row, hold_all_low, neither_low, own_few, own_rise, rates_all_low, two_costs, two_days, two_days_of, two_kinds, two_of, two_prices, two_weights}
use Rattle.strip_arrivals.proofs.Stages.{stage_both}
use Rattle.strip_arrivals.proofs.Tables.{known_set, small_set}
use Rattle.strip_arrivals.proofs.table.ArrivalsTable.both_here.Goals as goal

-- the row begins with no more than can be paid
begins_low : (never rate hold free own other both own_all other_all all one_saved other_saved owed : ℕ) → own_all ≡ free + own → other_all ≡ free + other
    → all ≡ free + own + other + both → one_saved ≤ never + rate * own_all + 0 → other_saved ≤ never + rate * other_all + 0
    → max one_saved (other_saved + hold * other - owed) ≤ never + rate * all + hold * other
begins_low never rate hold free own other both own_all other_all all one_saved other_saved owed is_own is_other is_all low low_too =
    let one : rate * own_all ≡ rate * free + rate * own = ap (λ (days : ℕ). rate * days) is_own ∙ spread rate free own in
    let others : rate * other_all ≡ rate * free + rate * other = ap (λ (days : ℕ). rate * days) is_other ∙ spread rate free other in
    let whole : rate * all ≡ rate * free + rate * own + rate * other + rate * both = ap (λ (days : ℕ). rate * days) is_all ∙ spread_all rate free own other both in
    omega (arith, one, others, whole, low, low_too)
  where
    spread : (rate free own : ℕ) → rate * (free + own) ≡ rate * free + rate * own
    spread rate free own = omega arith

    spread_all : (rate free own other both : ℕ) → rate * (free + own + other + both) ≡ rate * free + rate * own + rate * other + rate * both
    spread_all rate free own other both = omega arith

-- and told as what is paid, with the lesser of what is paid when one of the two goes
begins_as : (never rate hold extra free own other both own_all other_all all one_saved other_saved : ℕ) → own_all ≡ free + own → other_all ≡ free + other
    → all ≡ free + own + other + both → one_saved ≤ never + rate * own_all + 0 → other_saved ≤ never + rate * other_all + 0 → extra * own ≤ other_saved
    → never + rate * all + hold * other - max one_saved (other_saved + hold * other - extra * own)
    ≡ min ((never + rate * other_all + 0 - other_saved) + ((rate + extra) * own + rate * both)) ((never + rate * own_all + 0 - one_saved) + ((rate + hold) * other + rate * both))
begins_as never rate hold extra free own other both own_all other_all all one_saved other_saved is_own is_other is_all low low_too owed =
    let one : rate * own_all ≡ rate * free + rate * own = ap (λ (days : ℕ). rate * days) is_own ∙ spread rate free own in
    let others : rate * other_all ≡ rate * free + rate * other = ap (λ (days : ℕ). rate * days) is_other ∙ spread rate free other in
    let whole : rate * all ≡ rate * free + rate * own + rate * other + rate * both = ap (λ (days : ℕ). rate * days) is_all ∙ spread_all rate free own other both in
    let first : (rate + extra) * own ≡ rate * own + extra * own = spread_rates rate extra own in
    let second : (rate + hold) * other ≡ rate * other + hold * other = spread_rates rate hold other in
    omega (arith, one, others, whole, first, second, low, low_too, owed)
  where
    spread : (rate free own : ℕ) → rate * (free + own) ≡ rate * free + rate * own
    spread rate free own = omega arith

    spread_rates : (rate extra days : ℕ) → (rate + extra) * days ≡ rate * days + extra * days
    spread_rates rate extra days = omega arith

    spread_all : (rate free own other both : ℕ) → rate * (free + own + other + both) ≡ rate * free + rate * own + rate * other + rate * both
    spread_all rate free own other both = omega arith

pub more_at_most-requires-clause-fits : goal.more_at_most-requires-clause-fits
more_at_most-requires-clause-fits g c = λ places there.
    let lt = small_set (length c.split_at_mut-neither.result.0.now) c.args.party.now.higher g.B.BySet.places places (omega (arith, c.split_at_mut-neither.ensures.front_len, c.requires.party.sized)) there in
    let value = number g.B.BySet.value g.B.BySet.places in
    let count : ℕ = c.args.party.now.higher + g.B.BySet.places in
    let most : ℕ = g.B.BySet.most in
    let film : GroupData = c.args.self.now in
    let extra = extra_low value count most film c.args.party.now c.requires.party c.args.other.now.newcomer c.requires.other.newcomer places lt in
    let hold = hold_all_low value count most film c.args.party.now c.requires.party c.args.one.now.newcomer c.requires.one.newcomer in
    let hold_too = hold_all_low value count most film c.args.party.now c.requires.party c.args.other.now.newcomer c.requires.other.newcomer in
    omega (arith, extra, hold, hold_too, c.requires.party.low, c.requires.party.room)

pub greater_with-requires-clause-fits : goal.greater_with-requires-clause-fits
greater_with-requires-clause-fits g c = λ places there.
    let lt = small_set (length c.copy.new.table) c.args.party.now.higher g.B.BySet.places places (omega (arith, c.copy.ensures.length, c.requires.sized)) there in
    let value = number g.B.BySet.value g.B.BySet.places in
    let count : ℕ = c.args.party.now.higher + g.B.BySet.places in
    let most : ℕ = g.B.BySet.most in
    let film : GroupData = c.args.self.now in
    let party = c.args.party.now in
    let known = c.requires.party in
    let hold = hold_all_low value count most film party known c.args.one.now.newcomer c.requires.one.newcomer in
    let held = paid_low value count most film party known c.args.one.now.newcomer.hold (value c.args.other.now.newcomer.days.now places) hold
    (own_few value count most film party known c.args.other.now.newcomer c.requires.other.newcomer places lt) in
    let all = paid_low value count most film party known (sum_over party.crew.now.holds places) (value c.args.other.now.newcomer.all.now places)
    (rates_all_low value count most film party known places lt) (all_few value count most film party known c.args.other.now.newcomer c.requires.other.newcomer places lt) in
    omega (arith, held, all, c.requires.other.saved.high places lt, known.room)

pub greater_with-requires-clause-covered : goal.greater_with-requires-clause-covered
greater_with-requires-clause-covered g c = λ places there.
    let lt = small_set (length c.copy.new.table) c.args.party.now.higher g.B.BySet.places places (omega (arith, c.copy.ensures.length, c.requires.sized)) there in
    let value = number g.B.BySet.value g.B.BySet.places in
    let count : ℕ = c.args.party.now.higher + g.B.BySet.places in
    let most : ℕ = g.B.BySet.most in
    let film : GroupData = c.args.self.now in
    let party = c.args.party.now in
    let known = c.requires.party in
    let extra = extra_low value count most film party known c.args.other.now.newcomer c.requires.other.newcomer places lt in
    let hold = hold_all_low value count most film party known c.args.other.now.newcomer c.requires.other.newcomer in
    let owed = paid_low value count most film party known (value c.args.other.now.newcomer.extra.now places) (value c.args.one.now.newcomer.days.now places) (omega (arith, extra, hold))
    (own_few value count most film party known c.args.one.now.newcomer c.requires.one.newcomer places lt) in
    omega (arith, owed, c.requires.other.saved.low places lt)

pub pass-requires-clause-room : goal.pass-requires-clause-room
pass-requires-clause-room g c =
    let value = number g.B.BySet.value g.B.BySet.places in
    let count : ℕ = c.args.party.now.higher + g.B.BySet.places in
    let most : ℕ = g.B.BySet.most in
    let film : GroupData = c.args.self.now in
    let party = c.args.party.now in
    let known = c.requires.party in
    let one = c.args.one.now.newcomer in
    let other = c.args.other.now.newcomer in
    let both = c.args.both.now in
    let never : ℕ = party.never in
    let first : ℕ → ℕ = value c.greater_with.new.table in
    let neither = c.more_at_most.new.table in
    let higher : ℕ = party.higher in
    let inner : ℕ = g.B.BySet.places in
    let copied = λ (places : ℕ) (lt : places < 2 ^ count). c.copy.ensures.each places (known_set (length c.args.row.now) higher inner places c.requires.sized lt) in
    let raised = λ (places : ℕ) (lt : places < 2 ^ count).
    c.greater_with.ensures.each places (known_set (length c.copy.new.table) higher inner places (c.copy.ensures.length ∙ c.requires.sized) lt) in
    let is_neither : (places : ℕ) → places < 2 ^ count → value neither places ≡ min (value other.extra.now places + one.hold) (value both.mates.now places)
    = λ places lt. c.more_at_most.ensures.each places
    (known_set (length c.split_at_mut-neither.result.0.now) higher inner places (omega (arith, c.split_at_mut-neither.ensures.front_len, known.sized)) lt) in
    let made : SavingRoom count 2 most party.crew.now.holds (value both.all.now) (by_class value (two_of neither other.extra.now)) (by_class value (two_of party.days.now one.days.now)) first
    = record {
      rise = all_days_rise value count most film party known one other both c.requires.one.newcomer c.requires.other.newcomer c.requires.pair c.requires.both neither is_neither;
      rise_owed = λ class places place some lt there. for_two (λ k. by_class value (two_of party.days.now one.days.now) k (without places place) ≤ by_class value (two_of party.days.now one.days.now) k places)
          (free_rise value count most film party known places place lt there) (own_rise value count most film party known one c.requires.one.newcomer places place lt there) class some;
      base = 2 * never;
      begun = λ places lt. (
          let low = begins_low never (sum_over party.crew.now.holds places) one.hold (value party.days.now places) (value one.days.now places) (value other.days.now places) (c.requires.both.days places)
          (value one.all.now places) (value other.all.now places) (value both.all.now places) (value c.args.one.now.row.now places) (value c.args.other.now.row.now places)
          (value other.extra.now places * value one.days.now places) (c.requires.one.newcomer.all places lt) (c.requires.other.newcomer.all places lt) (c.requires.both.all places lt)
          (c.requires.one.saved.high places lt) (c.requires.other.saved.high places lt) in
          let hold = hold_all_low value count most film party known one c.requires.one.newcomer in
          let held = paid_low value count most film party known one.hold (value other.days.now places) hold (own_few value count most film party known other c.requires.other.newcomer places lt) in
          omega (arith, low, held, raised places lt, copied places lt));
      fits = λ places lt. (let low = paid_low value count most film party known (sum_over party.crew.now.holds places) (value both.all.now places)
          (rates_all_low value count most film party known places lt)
          (all_open_few value count most film party known one other both c.requires.one.newcomer c.requires.other.newcomer c.requires.pair c.requires.both places lt) in
          omega (arith, low, known.room));
      floor = never;
      covered = λ places lt. (
          let extra = extra_low value count most film party known other c.requires.other.newcomer places lt in
          let hold = hold_all_low value count most film party known other c.requires.other.newcomer in
          let all = all_few value count most film party known one c.requires.one.newcomer places lt in
          let low = both_paid_low value count most film party known (value neither places) (value party.days.now places) (value other.extra.now places) (value one.days.now places)
          (neither_low value count most film party known one other both c.requires.one.newcomer c.requires.other.newcomer c.requires.pair c.requires.both neither is_neither places lt)
          (omega (arith, extra, hold)) (omega (arith, all, c.requires.one.newcomer.all places lt)) in
          let sum = sum_two (λ class. by_class value (two_of neither other.extra.now) class places * by_class value (two_of party.days.now one.days.now) class places) in
          omega (arith, low, sum));
      low = λ places lt. omega (arith, raised places lt, copied places lt, c.requires.one.saved.low places lt);
    } in
    made

pub returns-clause-saved : goal.returns-clause-saved
returns-clause-saved g c =
    let value = number g.B.BySet.value g.B.BySet.places in
    let count : ℕ = c.args.party.now.higher + g.B.BySet.places in
    let most : ℕ = g.B.BySet.most in
    let film : GroupData = c.args.self.now in
    let party = c.args.party.now in
    let known = c.requires.party in
    let one = c.args.one.now.newcomer in
    let other = c.args.other.now.newcomer in
    let both = c.args.both.now in
    let told = c.requires.one.newcomer in
    let told_too = c.requires.other.newcomer in
    let pair = c.requires.pair in
    let of_both = c.requires.both in
    let set : ℕ = party.crew.now.set.0 in
    let group : ℕ = party.crew.now.group.0 in
    let newcomers : ℕ = party.newcomers.0 in
    let never : ℕ = party.never in
    let holds : List ℕ = party.crew.now.holds in
    let days : ℕ → ℕ = value both.all.now in
    let more : ℕ → ℕ = λ places. one.hold * value other.days.now places in
    let first : ℕ → ℕ = value c.greater_with.new.table in
    let saved : ℕ → ℕ = value c.pass.new.table in
    let neither = c.more_at_most.new.table in
    let higher : ℕ = party.higher in
    let inner : ℕ = g.B.BySet.places in
    let copied = λ (places : ℕ) (lt : places < 2 ^ count). c.copy.ensures.each places (known_set (length c.args.row.now) higher inner places c.requires.sized lt) in
    let raised = λ (places : ℕ) (lt : places < 2 ^ count).
    c.greater_with.ensures.each places (known_set (length c.copy.new.table) higher inner places (c.copy.ensures.length ∙ c.requires.sized) lt) in
    let is_neither : (places : ℕ) → places < 2 ^ count → value neither places ≡ min (value other.extra.now places + one.hold) (value both.mates.now places)
    = λ places lt. c.more_at_most.ensures.each places
    (known_set (length c.split_at_mut-neither.result.0.now) higher inner places (omega (arith, c.split_at_mut-neither.ensures.front_len, known.sized)) lt) in
    let stage = stage_both newcomers one.actor other.actor pair in
    let owed : ℕ → ℕ → ℕ = owes 2 (by_class value (two_of neither other.extra.now)) (by_class value (two_of party.days.now one.days.now)) in
    let saves : Saves count (slice_index holds) days owed first saved = c.pass.ensures.saves in
    let owed_is : (places before : ℕ) → owed places before ≡ value neither places * (value party.days.now places - value party.days.now before)
    + value other.extra.now places * (value one.days.now places - value one.days.now before)
    = λ places before. sum_two (λ class. by_class value (two_of neither other.extra.now) class places
    * (by_class value (two_of party.days.now one.days.now) class places - by_class value (two_of party.days.now one.days.now) class before)) in
    let rise = all_days_rise value count most film party known one other both told told_too pair of_both neither is_neither in
    let rise_more : (places place : ℕ) → places < 2 ^ count → has places place ≡ true → more (without places place) ≤ more places
    = λ places place lt there. mul-le-mul_left one.hold (own_rise value count most film party known other told_too places place lt there) in
    let row_is : (places : ℕ) → places < 2 ^ count
    → first places ≡ max (value c.args.one.now.row.now places) (value c.args.other.now.row.now places + one.hold * value other.days.now places - value other.extra.now places * value one.days.now places)
    = λ places lt. raised places lt
    ∙ ap (λ (n : ℕ). max n (value c.args.other.now.row.now places + one.hold * value other.days.now places - value other.extra.now places * value one.days.now places)) (copied places lt) in
    let begun : (places : ℕ) → places < 2 ^ count → first places ≤ never + sum_over holds places * days places + more places
    = λ places lt. (
    let low = begins_low never (sum_over holds places) one.hold (value party.days.now places) (value one.days.now places) (value other.days.now places) (of_both.days places)
    (value one.all.now places) (value other.all.now places) (days places) (value c.args.one.now.row.now places) (value c.args.other.now.row.now places)
    (value other.extra.now places * value one.days.now places) (told.all places lt) (told_too.all places lt) (of_both.all places lt)
    (c.requires.one.saved.high places lt) (c.requires.other.saved.high places lt) in
    omega (arith, low, row_is places lt)) in
    let some : 0 < 2 = omega arith in
    let width : 2 ^ size group ≤ 2 ^ count = pow-le-pow_right some known.crew.fits in
    let wide : (places : ℕ) → places < 2 ^ size group → places < 2 ^ count = λ places lt. omega (arith, lt, width) in
    let rates : ℕ → ℕ = sum_over holds in
    let waits : ℕ → ℕ = λ places. rates places + value other.extra.now places in
    let with_other : ℕ → ℕ = λ places. rates places + one.hold in
    let by_one : ℕ → ℕ = λ places. waits places * value one.days.now places + rates places * of_both.days places in
    let by_other : ℕ → ℕ = λ places. with_other places * value other.days.now places + rates places * of_both.days places in
    let prices = two_prices value count most film party known one other both told told_too pair of_both neither is_neither in
    let class_days = two_days value count most film party known one other both told told_too pair of_both neither is_neither in
    record {
      least = free_row value count most film party known 0 (one.actor ∷ other.actor ∷ []) 0 stage 4
          (two_kinds value count most film party known one other both told told_too pair of_both neither is_neither) (kinds_two one.actor other.actor pair.apart)
          (two_weights value count most film party known one other both told told_too pair of_both neither is_neither)
          (two_days_of value count most film party known one other both told told_too pair of_both neither is_neither) prices class_days
          (λ places. never + sum_over holds places * days places + more places - first places) (λ places. never + sum_over holds places * days places + more places - saved places)
          (begun_both_here film set group newcomers never known.company one.actor other.actor by_one by_other
          (λ places. never + sum_over holds places * value other.all.now places + 0 - value c.args.other.now.row.now places)
          (λ places. never + sum_over holds places * value one.all.now places + 0 - value c.args.one.now.row.now places)
          (λ places. never + sum_over holds places * days places + more places - first places) pair.apart c.requires.other.saved.least c.requires.one.saved.least
          (λ places lt. either_goes film set group newcomers known.company count known.crew.fits one.actor other.actor one.actor waits (value one.days.now) rates of_both.days stage
          (has_one one.actor other.actor) (prices 1 (omega arith)) told.days (prices 3 (omega arith)) of_both.are_days places lt)
          (λ places lt. either_goes film set group newcomers known.company count known.crew.fits one.actor other.actor other.actor with_other (value other.days.now) rates of_both.days stage
          (has-with_same (with 0 one.actor) other.actor) (prices 2 (omega arith)) told_too.days (prices 3 (omega arith)) of_both.are_days places lt)
          (λ places lt.
          let few = wide places lt in
          let extra = extra_low value count most film party known other told_too places few in
          let hold = hold_all_low value count most film party known other told_too in
          let owed_low = paid_low value count most film party known (value other.extra.now places) (value one.days.now places) (omega (arith, extra, hold)) (own_few value count most film party known one told places few) in
          ap (λ (n : ℕ). never + sum_over holds places * days places + more places - n) (row_is places few)
          ∙ begins_as never (rates places) one.hold (value other.extra.now places) (value party.days.now places) (value one.days.now places) (value other.days.now places) (of_both.days places)
          (value one.all.now places) (value other.all.now places) (days places) (value c.args.one.now.row.now places) (value c.args.other.now.row.now places)
          (told.all places few) (told_too.all places few) (of_both.all places few) (c.requires.one.saved.high places few) (c.requires.other.saved.high places few)
          (omega (arith, owed_low, c.requires.other.saved.low places few))))
          refl
          (lowered count known.few holds never days more rise rise_more owed first saved saves begun _
          (two_costs value count most film party known one other both told told_too pair of_both neither is_neither owed owed_is));
      low = λ places lt. (let kept = saves.kept places lt in omega (arith, kept, row_is places lt, c.requires.one.saved.low places lt));
      high = within count known.few holds never days more rise rise_more owed first saved saves begun;
    }
