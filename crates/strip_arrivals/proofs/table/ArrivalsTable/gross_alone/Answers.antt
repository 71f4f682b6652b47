use Rattle.std.proofs.Common.{length, ◌≡◌, ℕ, ◌+◌, ◌*◌, ◌-◌, ◌^◌, ◌<◌, sym, ap, ◌∙◌, subst, arith}
use Rattle.strip_mask.specs.Set.{full, size, sum_over}
use Rattle.strip_group.specs.Group.{GroupData}
use Rattle.strip_sets.proofs.Sets.{full_small}
use Rattle.strip_sets.specs.Numbers.{number}
use Rattle.strip_arrivals.specs.Arrivals.{at_first}
use Rattle.strip_arrivals.specs.Gross.{IsGross}
use Rattle.strip_arrivals.proofs.AtOnce.{none_comes}
use Rattle.strip_arrivals.proofs.Fits.{paid_low}
use Rattle.strip_arrivals.proofs.Staged.{free_days_few, rates_all_low}
use Rattle.strip_arrivals.proofs.Tables.{known_set}
use Rattle.strip_arrivals.proofs.table.ArrivalsTable.gross_alone.Goals as goal

pub at-requires-clause-known : goal.at-requires-clause-known
at-requires-clause-known g c =
    let party = c.args.party.now in
    subst (λ (all : ℕ). all < length c.args.party.now.days.now * 2 ^ g.B.BySet.places) (sym c.all-all.ensures)
    (known_set (length c.args.party.now.days.now) party.higher g.B.BySet.places (full (size party.crew.now.group.0)) c.requires.party.sized
    (full_small (size party.crew.now.group.0) (party.higher + g.B.BySet.places) c.requires.party.crew.fits))

pub at-requires-2-clause-known : goal.at-requires-2-clause-known
at-requires-2-clause-known g c =
    let party = c.args.party.now in
    subst (λ (all : ℕ). all < length c.over.new.row * 2 ^ g.B.BySet.places) (sym c.all-all.ensures)
    (known_set (length c.over.new.row) party.higher g.B.BySet.places (full (size party.crew.now.group.0)) (omega (arith, c.over.ensures.length, c.split_at_mut-row.ensures.front_len, c.requires.party.sized))
    (full_small (size party.crew.now.group.0) (party.higher + g.B.BySet.places) c.requires.party.crew.fits))

pub overflow_mul-result : goal.overflow_mul-result
overflow_mul-result g c =
    let value = number g.B.BySet.value g.B.BySet.places in
    let count : ℕ = c.args.party.now.higher + g.B.BySet.places in
    let film : GroupData = c.args.self.now in
    let party = c.args.party.now in
    let known = c.requires.party in
    let all : ℕ = full (size party.crew.now.group.0) in
    let lt : all < 2 ^ count = full_small (size party.crew.now.group.0) count known.crew.fits in
    let is : party.crew.now.rate * c.at.result ≡ sum_over party.crew.now.holds all * value party.days.now all
    = (λ i. known.crew.rate i * (c.at.ensures ∙ ap (value party.days.now) c.all-all.ensures) i) in
    let low = paid_low value count g.B.BySet.most film party known (sum_over party.crew.now.holds all) (value party.days.now all) (rates_all_low value count g.B.BySet.most film party known all lt)
    (free_days_few value count g.B.BySet.most film party known all lt) in
    record { fits = omega (arith, is, low, known.room, g.met.B.BySet.narrow) }

pub overflow_add-result : goal.overflow_add-result
overflow_add-result g c =
    let value = number g.B.BySet.value g.B.BySet.places in
    let count : ℕ = c.args.party.now.higher + g.B.BySet.places in
    let film : GroupData = c.args.self.now in
    let party = c.args.party.now in
    let known = c.requires.party in
    let all : ℕ = full (size party.crew.now.group.0) in
    let lt : all < 2 ^ count = full_small (size party.crew.now.group.0) count known.crew.fits in
    let is : party.crew.now.rate * c.at.result ≡ sum_over party.crew.now.holds all * value party.days.now all
    = (λ i. known.crew.rate i * (c.at.ensures ∙ ap (value party.days.now) c.all-all.ensures) i) in
    let low = paid_low value count g.B.BySet.most film party known (sum_over party.crew.now.holds all) (value party.days.now all) (rates_all_low value count g.B.BySet.most film party known all lt)
    (free_days_few value count g.B.BySet.most film party known all lt) in
    record { fits = omega (arith, is, low, known.room, g.met.B.BySet.narrow) }

pub overflow_sub-result : goal.overflow_sub-result
overflow_sub-result g c =
    let value = number g.B.BySet.value g.B.BySet.places in
    let count : ℕ = c.args.party.now.higher + g.B.BySet.places in
    let film : GroupData = c.args.self.now in
    let party = c.args.party.now in
    let known = c.requires.party in
    let all : ℕ = full (size party.crew.now.group.0) in
    let lt : all < 2 ^ count = full_small (size party.crew.now.group.0) count known.crew.fits in
    let is : party.crew.now.rate * c.at.result ≡ sum_over party.crew.now.holds all * value party.days.now all
    = (λ i. known.crew.rate i * (c.at.ensures ∙ ap (value party.days.now) c.all-all.ensures) i) in
    let low = paid_low value count g.B.BySet.most film party known (sum_over party.crew.now.holds all) (value party.days.now all) (rates_all_low value count g.B.BySet.most film party known all lt)
    (free_days_few value count g.B.BySet.most film party known all lt) in
    let saved : c.at-2.result ≡ value c.over.new.row all = c.at-2.ensures ∙ ap (value c.over.new.row) c.all-all.ensures in
    omega (arith, is, saved, c.over.ensures.saved.high all lt)

pub returns : goal.returns
returns g c =
    let value = number g.B.BySet.value g.B.BySet.places in
    let count : ℕ = c.args.party.now.higher + g.B.BySet.places in
    let film : GroupData = c.args.self.now in
    let party = c.args.party.now in
    let known = c.requires.party in
    let all : ℕ = full (size party.crew.now.group.0) in
    let lt : all < 2 ^ count = full_small (size party.crew.now.group.0) count known.crew.fits in
    let is : party.crew.now.rate * c.at.result ≡ sum_over party.crew.now.holds all * value party.days.now all
    = (λ i. known.crew.rate i * (c.at.ensures ∙ ap (value party.days.now) c.all-all.ensures) i) in
    let low = paid_low value count g.B.BySet.most film party known (sum_over party.crew.now.holds all) (value party.days.now all) (rates_all_low value count g.B.BySet.most film party known all lt)
    (free_days_few value count g.B.BySet.most film party known all lt) in
    let saved : c.at-2.result ≡ value c.over.new.row all = c.at-2.ensures ∙ ap (value c.over.new.row) c.all-all.ensures in
    let total : ℕ → ℕ = λ places. party.never + sum_over party.crew.now.holds places * value party.days.now places + 0 - value c.over.new.row places in
    let paid : party.never + party.crew.now.rate * c.at.result - c.at-2.result ≡ total all = omega (arith, is, saved) in
    let fits : all < 2 ^ size party.crew.now.group.0 = full_small (size party.crew.now.group.0) (size party.crew.now.group.0) (omega arith) in
    subst (λ (gross : ℕ). IsGross film party.crew.now.set.0 party.crew.now.group.0 (at_first party.newcomers.0) gross) (sym paid)
    (none_comes film party.crew.now.set.0 party.crew.now.group.0 party.newcomers.0 known.company (total all) c.requires.nobody (c.over.ensures.saved.least all fits))
