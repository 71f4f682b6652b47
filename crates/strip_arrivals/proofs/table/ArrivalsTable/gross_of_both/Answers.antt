use Rattle.std.proofs.Common.{length, ◌≡◌, ℕ, ◌+◌, ◌*◌, ◌-◌, ◌^◌, ◌<◌, sym, ap, ◌∙◌, subst, arith, [], ◌∷◌}
use Rattle.strip_mask.specs.Set.{full, size, sum_over}
use Rattle.strip_group.specs.Group.{GroupData}
use Rattle.strip_sets.proofs.Sets.{full_small}
use Rattle.strip_sets.specs.Numbers.{number}
use Rattle.strip_arrivals.specs.Company.{staying}
use Rattle.strip_arrivals.specs.Gross.{IsGross}
use Rattle.strip_arrivals.proofs.Fits.{paid_low}
use Rattle.strip_arrivals.proofs.Staged.{all_open_few, hold_all_low, own_few, rates_all_low}
use Rattle.strip_arrivals.proofs.Tables.{known_set}
use Rattle.strip_arrivals.proofs.table.ArrivalsTable.gross_of_both.Goals as goal

pub at-requires-clause-known : goal.at-requires-clause-known
at-requires-clause-known g c =
    let party = c.args.party.now in
    subst (λ (all : ℕ). all < length c.args.both.now.all.now * 2 ^ g.B.BySet.places) (sym c.all-all.ensures)
    (known_set (length c.args.both.now.all.now) party.higher g.B.BySet.places (full (size party.crew.now.group.0)) c.requires.both.sized.0
    (full_small (size party.crew.now.group.0) (party.higher + g.B.BySet.places) c.requires.party.crew.fits))

pub at-requires-2-clause-known : goal.at-requires-2-clause-known
at-requires-2-clause-known g c =
    let party = c.args.party.now in
    subst (λ (all : ℕ). all < length c.args.other.now.newcomer.days.now * 2 ^ g.B.BySet.places) (sym c.all-all.ensures)
    (known_set (length c.args.other.now.newcomer.days.now) party.higher g.B.BySet.places (full (size party.crew.now.group.0)) c.requires.other.newcomer.sized.0
    (full_small (size party.crew.now.group.0) (party.higher + g.B.BySet.places) c.requires.party.crew.fits))

pub at-requires-3-clause-known : goal.at-requires-3-clause-known
at-requires-3-clause-known g c =
    let party = c.args.party.now in
    subst (λ (all : ℕ). all < length c.both_here.new.row * 2 ^ g.B.BySet.places) (sym c.all-all.ensures)
    (known_set (length c.both_here.new.row) party.higher g.B.BySet.places (full (size party.crew.now.group.0)) (omega (arith, c.both_here.ensures.length.0, c.split_at_mut-row.ensures.front_len, c.requires.party.sized))
    (full_small (size party.crew.now.group.0) (party.higher + g.B.BySet.places) c.requires.party.crew.fits))

pub overflow_mul-most : goal.overflow_mul-most
overflow_mul-most g c =
    let value = number g.B.BySet.value g.B.BySet.places in
    let count : ℕ = c.args.party.now.higher + g.B.BySet.places in
    let film : GroupData = c.args.self.now in
    let party = c.args.party.now in
    let known = c.requires.party in
    let one = c.args.one.now.newcomer in
    let other = c.args.other.now.newcomer in
    let both = c.args.both.now in
    let all : ℕ = full (size party.crew.now.group.0) in
    let lt : all < 2 ^ count = full_small (size party.crew.now.group.0) count known.crew.fits in
    let is : party.crew.now.rate * c.at.result ≡ sum_over party.crew.now.holds all * value both.all.now all
    = (λ i. known.crew.rate i * (c.at.ensures ∙ ap (value both.all.now) c.all-all.ensures) i) in
    let low = paid_low value count g.B.BySet.most film party known (sum_over party.crew.now.holds all) (value both.all.now all) (rates_all_low value count g.B.BySet.most film party known all lt)
    (all_open_few value count g.B.BySet.most film party known one other both c.requires.one.newcomer c.requires.other.newcomer c.requires.pair c.requires.both all lt) in
    record { fits = omega (arith, is, low, known.room, g.met.B.BySet.narrow) }

pub overflow_add-most : goal.overflow_add-most
overflow_add-most g c =
    let value = number g.B.BySet.value g.B.BySet.places in
    let count : ℕ = c.args.party.now.higher + g.B.BySet.places in
    let film : GroupData = c.args.self.now in
    let party = c.args.party.now in
    let known = c.requires.party in
    let one = c.args.one.now.newcomer in
    let other = c.args.other.now.newcomer in
    let both = c.args.both.now in
    let all : ℕ = full (size party.crew.now.group.0) in
    let lt : all < 2 ^ count = full_small (size party.crew.now.group.0) count known.crew.fits in
    let is : party.crew.now.rate * c.at.result ≡ sum_over party.crew.now.holds all * value both.all.now all
    = (λ i. known.crew.rate i * (c.at.ensures ∙ ap (value both.all.now) c.all-all.ensures) i) in
    let low = paid_low value count g.B.BySet.most film party known (sum_over party.crew.now.holds all) (value both.all.now all) (rates_all_low value count g.B.BySet.most film party known all lt)
    (all_open_few value count g.B.BySet.most film party known one other both c.requires.one.newcomer c.requires.other.newcomer c.requires.pair c.requires.both all lt) in
    record { fits = omega (arith, is, low, known.room, g.met.B.BySet.narrow) }

pub overflow_mul-result : goal.overflow_mul-result
overflow_mul-result g c =
    let value = number g.B.BySet.value g.B.BySet.places in
    let count : ℕ = c.args.party.now.higher + g.B.BySet.places in
    let film : GroupData = c.args.self.now in
    let party = c.args.party.now in
    let known = c.requires.party in
    let one = c.args.one.now.newcomer in
    let other = c.args.other.now.newcomer in
    let both = c.args.both.now in
    let all : ℕ = full (size party.crew.now.group.0) in
    let lt : all < 2 ^ count = full_small (size party.crew.now.group.0) count known.crew.fits in
    let is : party.crew.now.rate * c.at.result ≡ sum_over party.crew.now.holds all * value both.all.now all
    = (λ i. known.crew.rate i * (c.at.ensures ∙ ap (value both.all.now) c.all-all.ensures) i) in
    let low = paid_low value count g.B.BySet.most film party known (sum_over party.crew.now.holds all) (value both.all.now all) (rates_all_low value count g.B.BySet.most film party known all lt)
    (all_open_few value count g.B.BySet.most film party known one other both c.requires.one.newcomer c.requires.other.newcomer c.requires.pair c.requires.both all lt) in
    let is_too : one.hold * c.at-2.result ≡ one.hold * value other.days.now all = ap (λ (days : ℕ). one.hold * days) (c.at-2.ensures ∙ ap (value other.days.now) c.all-all.ensures) in
    let held = paid_low value count g.B.BySet.most film party known one.hold (value other.days.now all) (hold_all_low value count g.B.BySet.most film party known one c.requires.one.newcomer)
    (own_few value count g.B.BySet.most film party known other c.requires.other.newcomer all lt) in
    record { fits = omega (arith, is_too, held, known.room, g.met.B.BySet.narrow) }

pub overflow_add-result : goal.overflow_add-result
overflow_add-result g c =
    let value = number g.B.BySet.value g.B.BySet.places in
    let count : ℕ = c.args.party.now.higher + g.B.BySet.places in
    let film : GroupData = c.args.self.now in
    let party = c.args.party.now in
    let known = c.requires.party in
    let one = c.args.one.now.newcomer in
    let other = c.args.other.now.newcomer in
    let both = c.args.both.now in
    let all : ℕ = full (size party.crew.now.group.0) in
    let lt : all < 2 ^ count = full_small (size party.crew.now.group.0) count known.crew.fits in
    let is : party.crew.now.rate * c.at.result ≡ sum_over party.crew.now.holds all * value both.all.now all
    = (λ i. known.crew.rate i * (c.at.ensures ∙ ap (value both.all.now) c.all-all.ensures) i) in
    let low = paid_low value count g.B.BySet.most film party known (sum_over party.crew.now.holds all) (value both.all.now all) (rates_all_low value count g.B.BySet.most film party known all lt)
    (all_open_few value count g.B.BySet.most film party known one other both c.requires.one.newcomer c.requires.other.newcomer c.requires.pair c.requires.both all lt) in
    let is_too : one.hold * c.at-2.result ≡ one.hold * value other.days.now all = ap (λ (days : ℕ). one.hold * days) (c.at-2.ensures ∙ ap (value other.days.now) c.all-all.ensures) in
    let held = paid_low value count g.B.BySet.most film party known one.hold (value other.days.now all) (hold_all_low value count g.B.BySet.most film party known one c.requires.one.newcomer)
    (own_few value count g.B.BySet.most film party known other c.requires.other.newcomer all lt) in
    record { fits = omega (arith, is, low, is_too, held, known.room, g.met.B.BySet.narrow) }

pub overflow_sub-result : goal.overflow_sub-result
overflow_sub-result g c =
    let value = number g.B.BySet.value g.B.BySet.places in
    let count : ℕ = c.args.party.now.higher + g.B.BySet.places in
    let film : GroupData = c.args.self.now in
    let party = c.args.party.now in
    let known = c.requires.party in
    let one = c.args.one.now.newcomer in
    let other = c.args.other.now.newcomer in
    let both = c.args.both.now in
    let all : ℕ = full (size party.crew.now.group.0) in
    let lt : all < 2 ^ count = full_small (size party.crew.now.group.0) count known.crew.fits in
    let is : party.crew.now.rate * c.at.result ≡ sum_over party.crew.now.holds all * value both.all.now all
    = (λ i. known.crew.rate i * (c.at.ensures ∙ ap (value both.all.now) c.all-all.ensures) i) in
    let low = paid_low value count g.B.BySet.most film party known (sum_over party.crew.now.holds all) (value both.all.now all) (rates_all_low value count g.B.BySet.most film party known all lt)
    (all_open_few value count g.B.BySet.most film party known one other both c.requires.one.newcomer c.requires.other.newcomer c.requires.pair c.requires.both all lt) in
    let is_too : one.hold * c.at-2.result ≡ one.hold * value other.days.now all = ap (λ (days : ℕ). one.hold * days) (c.at-2.ensures ∙ ap (value other.days.now) c.all-all.ensures) in
    let held = paid_low value count g.B.BySet.most film party known one.hold (value other.days.now all) (hold_all_low value count g.B.BySet.most film party known one c.requires.one.newcomer)
    (own_few value count g.B.BySet.most film party known other c.requires.other.newcomer all lt) in
    let saved : c.at-3.result ≡ value c.both_here.new.row all = c.at-3.ensures ∙ ap (value c.both_here.new.row) c.all-all.ensures in
    omega (arith, is, is_too, saved, c.both_here.ensures.saved.high all lt)

pub returns-clause-gross : goal.returns-clause-gross
returns-clause-gross g c =
    let value = number g.B.BySet.value g.B.BySet.places in
    let count : ℕ = c.args.party.now.higher + g.B.BySet.places in
    let film : GroupData = c.args.self.now in
    let party = c.args.party.now in
    let known = c.requires.party in
    let one = c.args.one.now.newcomer in
    let other = c.args.other.now.newcomer in
    let both = c.args.both.now in
    let all : ℕ = full (size party.crew.now.group.0) in
    let lt : all < 2 ^ count = full_small (size party.crew.now.group.0) count known.crew.fits in
    let is : party.crew.now.rate * c.at.result ≡ sum_over party.crew.now.holds all * value both.all.now all
    = (λ i. known.crew.rate i * (c.at.ensures ∙ ap (value both.all.now) c.all-all.ensures) i) in
    let low = paid_low value count g.B.BySet.most film party known (sum_over party.crew.now.holds all) (value both.all.now all) (rates_all_low value count g.B.BySet.most film party known all lt)
    (all_open_few value count g.B.BySet.most film party known one other both c.requires.one.newcomer c.requires.other.newcomer c.requires.pair c.requires.both all lt) in
    let is_too : one.hold * c.at-2.result ≡ one.hold * value other.days.now all = ap (λ (days : ℕ). one.hold * days) (c.at-2.ensures ∙ ap (value other.days.now) c.all-all.ensures) in
    let held = paid_low value count g.B.BySet.most film party known one.hold (value other.days.now all) (hold_all_low value count g.B.BySet.most film party known one c.requires.one.newcomer)
    (own_few value count g.B.BySet.most film party known other c.requires.other.newcomer all lt) in
    let saved : c.at-3.result ≡ value c.both_here.new.row all = c.at-3.ensures ∙ ap (value c.both_here.new.row) c.all-all.ensures in
    let total : ℕ → ℕ = λ places. party.never + sum_over party.crew.now.holds places * value both.all.now places + one.hold * value other.days.now places - value c.both_here.new.row places in
    let paid : party.never + party.crew.now.rate * c.at.result + one.hold * c.at-2.result - c.at-3.result ≡ total all = omega (arith, is, is_too, saved) in
    let fits : all < 2 ^ size party.crew.now.group.0 = full_small (size party.crew.now.group.0) (size party.crew.now.group.0) (omega arith) in
    subst (λ (gross : ℕ). IsGross film party.crew.now.set.0 party.crew.now.group.0 (staying party.crew.now.group.0 0 (one.actor ∷ other.actor ∷ []) 0 all) gross) (sym paid)
    (c.both_here.ensures.saved.least all fits)
