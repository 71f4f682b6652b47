use Rattle.std.proofs.Common.{◌≡◌, ℕ, ◌+◌, ◌*◌, ◌-◌, ◌^◌, ◌<◌, ◌≤◌, Bool, true, false, ◌||◌, eqb, List, [], ◌∷◌, refl, slice_index, subst, sym, ap, ◌∙◌, arith}
use Rattle.std.proofs.Math.Nat.{pow-le-pow_right}
use Rattle.strip_mask.specs.Set.{has, size, sum_over, with, without}
use Rattle.strip_mask.proofs.ByMembers.{has-empty, has-with, has-with_same, same_has}
use Rattle.strip_group.specs.Group.{GroupData}
use Rattle.strip_sets.specs.Numbers.{number, by_class}
use Rattle.strip_sets.specs.Saving.{Saves, SavingRoom, owes}
use Rattle.strip_arrivals.specs.Company.{IsSaved, IsStage}
use Rattle.strip_arrivals.proofs.Begun.{begun_alone}
use Rattle.strip_arrivals.proofs.Chosen.{sum_one}
use Rattle.strip_arrivals.proofs.Classes.{alone_goes, kinds_one}
use Rattle.strip_arrivals.proofs.Prices.{price_with}
use Rattle.strip_arrivals.proofs.Fits.{paid_low}
use Rattle.strip_arrivals.proofs.Saved.{lowered, within}
use Rattle.strip_arrivals.proofs.Staged.{all_few, all_rise, extra_low, free_days_few, free_rise, free_row, hold_all_low, one_costs, one_days, one_days_of, one_prices, one_weights, for_one, rates_all_low, same_of}
use Rattle.strip_arrivals.proofs.table.ArrivalsTable.alone.Goals as goal

-- when he is gone too, all newcomers are
last_goes : (newcomers one gone : ℕ) → IsStage newcomers 0 (one ∷ []) gone → newcomers ≡ with gone one
last_goes newcomers one gone stage = same_has newcomers (with gone one) (λ i. stage.whole i
    ∙ (λ j. has-empty i j || (has-with 0 one i j || has gone i))
    ∙ ap (λ b. (eqb one i || b) || has gone i) (has-empty i) ∙ unless (eqb one i) (has gone i) ∙ sym (has-with gone one i))
  where
    unless : (a b : Bool) → ((a || false) || b) ≡ (a || b)
    unless true b = refl
    unless false b = refl

-- more days at a rate are paid for with more
more_days : (rate free own : ℕ) → rate * free ≤ rate * (free + own)
more_days rate free own = omega arith

-- what the row saves, as it begins, told as what is paid when he goes last
goes_last : (never rate free own all saved : ℕ) → all ≡ free + own → saved ≤ never + rate * free + 0
    → never + rate * all + 0 - saved ≡ (never + rate * free + 0 - saved) + rate * own
goes_last never rate free own all saved is low =
    let parts : rate * all ≡ rate * free + rate * own = ap (λ (days : ℕ). rate * days) is ∙ spread rate free own in
    omega (arith, parts, low)
  where
    spread : (rate free own : ℕ) → rate * (free + own) ≡ rate * free + rate * own
    spread rate free own = omega arith

pub pass-requires-clause-room : goal.pass-requires-clause-room
pass-requires-clause-room g c =
    let value = number g.B.BySet.value g.B.BySet.places in
    let count : ℕ = c.args.party.now.higher + g.B.BySet.places in
    let most : ℕ = g.B.BySet.most in
    let film : GroupData = c.args.self.now in
    let party = c.args.party.now in
    let known = c.requires.party in
    let one = c.args.one.now in
    let told = c.requires.one in
    let never : ℕ = party.never in
    let first : ℕ → ℕ = value c.args.row.now in
    let made : SavingRoom count 1 most party.crew.now.holds (value one.all.now) (by_class value (same_of one.extra.now)) (by_class value (same_of party.days.now)) first
    = record {
      rise = all_rise value count most film party known one told;
      rise_owed = λ class places place some lt there. for_one (λ k. by_class value (same_of party.days.now) k (without places place) ≤ by_class value (same_of party.days.now) k places)
          (free_rise value count most film party known places place lt there) class some;
      base = never;
      begun = λ places lt. (let low = c.requires.over.high places lt in
          omega (arith, low, ap (λ (days : ℕ). sum_over party.crew.now.holds places * days) (told.all places lt), more_days (sum_over party.crew.now.holds places) (value party.days.now places) (value one.days.now places)));
      fits = λ places lt. (let low = paid_low value count most film party known (sum_over party.crew.now.holds places) (value one.all.now places)
          (rates_all_low value count most film party known places lt) (all_few value count most film party known one told places lt) in omega (arith, low, known.room));
      floor = never;
      covered = λ places lt. (
          let extra = extra_low value count most film party known one told places lt in
          let hold = hold_all_low value count most film party known one told in
          let low = paid_low value count most film party known (value one.extra.now places) (value party.days.now places) (omega (arith, extra, hold)) (free_days_few value count most film party known places lt) in
          let sum = sum_one (λ class. by_class value (same_of one.extra.now) class places * by_class value (same_of party.days.now) class places) in
          omega (arith, low, sum));
      low = c.requires.over.low;
    } in
    subst (λ w. SavingRoom count 1 most party.crew.now.holds (value one.all.now) (by_class (λ s. value s.now) w) (by_class (λ s. value s.now) c.same-owed.result) first) (sym c.same-extras.ensures)
    (subst (λ w. SavingRoom count 1 most party.crew.now.holds (value one.all.now) (by_class value (same_of one.extra.now)) (by_class (λ s. value s.now) w) first) (sym c.same-owed.ensures) made)

pub returns-clause-saved : goal.returns-clause-saved
returns-clause-saved g c =
    let value = number g.B.BySet.value g.B.BySet.places in
    let count : ℕ = c.args.party.now.higher + g.B.BySet.places in
    let most : ℕ = g.B.BySet.most in
    let film : GroupData = c.args.self.now in
    let party = c.args.party.now in
    let known = c.requires.party in
    let one = c.args.one.now in
    let told = c.requires.one in
    let set : ℕ = party.crew.now.set.0 in
    let group : ℕ = party.crew.now.group.0 in
    let newcomers : ℕ = party.newcomers.0 in
    let never : ℕ = party.never in
    let gone : ℕ = c.args.gone.0 in
    let holds : List ℕ = party.crew.now.holds in
    let days : ℕ → ℕ = value one.all.now in
    let first : ℕ → ℕ = value c.args.row.now in
    let saved : ℕ → ℕ = value c.pass.new.table in
    let owed : ℕ → ℕ → ℕ = owes 1 (by_class (λ s. value s.now) c.same-extras.result) (by_class (λ s. value s.now) c.same-owed.result) in
    let saves : Saves count (slice_index holds) days owed first saved = c.pass.ensures.saves in
    let owed_is : (places before : ℕ) → owed places before ≡ value one.extra.now places * (value party.days.now places - value party.days.now before)
    = λ places before. sum_one (λ class. by_class (λ s. value s.now) c.same-extras.result class places
    * (by_class (λ s. value s.now) c.same-owed.result class places - by_class (λ s. value s.now) c.same-owed.result class before))
    ∙ (λ i. value (c.same-extras.ensures i).first.now places * (value (c.same-owed.ensures i).first.now places - value (c.same-owed.ensures i).first.now before)) in
    let rise = all_rise value count most film party known one told in
    let level : (places place : ℕ) → places < 2 ^ count → has places place ≡ true → 0 ≤ 0 = λ places place lt there. omega arith in
    let over = c.requires.over in
    let begun : (places : ℕ) → places < 2 ^ count → first places ≤ never + sum_over holds places * days places + 0
    = λ places lt. (let low = over.high places lt in
    omega (arith, low, ap (λ (d : ℕ). sum_over holds places * d) (told.all places lt), more_days (sum_over holds places) (value party.days.now places) (value one.days.now places))) in
    let some : 0 < 2 = omega arith in
    let width : 2 ^ size group ≤ 2 ^ count = pow-le-pow_right some known.crew.fits in
    let wide : (places : ℕ) → places < 2 ^ size group → places < 2 ^ count = λ places lt. omega (arith, lt, width) in
    let later : ℕ → ℕ = λ places. never + sum_over holds places * value party.days.now places + 0 - first places in
    let totals = subst (λ (out : ℕ). IsSaved film set group count 0 [] out never holds (value party.days.now) (λ _. 0) first) (last_goes newcomers one.actor gone c.requires.stage) over in
    record {
      least = free_row value count most film party known 0 (one.actor ∷ []) gone c.requires.stage 2 (slice_index (0 ∷ with 0 one.actor ∷ [])) (kinds_one one.actor)
          (one_weights value count most film party known one told) (one_days_of value count most film party known one told)
          (one_prices value count most film party known one told gone) (one_days value count most film party known one told)
          (λ places. never + sum_over holds places * days places + 0 - first places) (λ places. never + sum_over holds places * days places + 0 - saved places)
          (begun_alone film set group newcomers never known.company one.actor gone (λ places. sum_over holds places * value one.days.now places) later
          (λ places. never + sum_over holds places * days places + 0 - first places) totals.least
          (λ places lt. alone_goes film set group newcomers known.company count known.crew.fits one.actor gone (sum_over holds) (value one.days.now) c.requires.stage
          (price_with film set group newcomers known.company count (sum_over holds) known.crew.rates 0 gone one.actor told.comes (with 0 one.actor) (has-with_same 0 one.actor))
          told.days places lt)
          (λ places lt. goes_last never (sum_over holds places) (value party.days.now places) (value one.days.now places) (days places) (first places)
          (told.all places (wide places lt)) (over.high places (wide places lt))))
          refl
          (lowered count known.few holds never days (λ _. 0) rise level owed first saved saves begun _
          (one_costs value count most film party known one told owed owed_is));
      low = λ places lt. (let kept = saves.kept places lt in let low = over.low places lt in omega (arith, kept, low));
      high = within count known.few holds never days (λ _. 0) rise level owed first saved saves begun;
    }
