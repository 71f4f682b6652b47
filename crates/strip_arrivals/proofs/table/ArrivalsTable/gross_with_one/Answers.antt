use Rattle.std.proofs.Common.{length, ◌≡◌, ℕ, ◌+◌, ◌*◌, ◌-◌, ◌^◌, ◌<◌, sym, ap, ◌∙◌, subst, arith}
use Rattle.strip_mask.specs.Set.{full, has, size, sum_over, with}
use Rattle.strip_group.specs.Group.{GroupData}
use Rattle.strip_sets.proofs.Sets.{full_small}
use Rattle.strip_sets.specs.Numbers.{number}
use Rattle.strip_arrivals.specs.Arrivals.{at_first}
use Rattle.strip_arrivals.specs.Gross.{IsGross}
use Rattle.strip_mask.proofs.ByMembers.{has-with_same}
use Rattle.strip_arrivals.proofs.AtOnce.{one_comes}
use Rattle.strip_arrivals.proofs.Fits.{paid_low}
use Rattle.strip_arrivals.proofs.Staged.{all_few, rates_all_low}
use Rattle.strip_arrivals.proofs.Stages.{stage_alone_one}
use Rattle.strip_arrivals.proofs.Tables.{known_set}
use Rattle.strip_arrivals.proofs.table.ArrivalsTable.gross_with_one.Goals as goal

pub arrived-one-requires-clause-comes : goal.arrived-one-requires-clause-comes
arrived-one-requires-clause-comes g c = ap (λ (s : ℕ). has s c.args.actor) c.requires.only ∙ has-with_same 0 c.args.actor

pub arrived-one-requires-clause-stage : goal.arrived-one-requires-clause-stage
arrived-one-requires-clause-stage g c = stage_alone_one c.args.party.now.newcomers.0 c.args.actor c.requires.only

-- the only newcomer is the one whose tables were made
is_he : (newcomers actor same : ℕ) → newcomers ≡ with 0 actor → same ≡ actor → newcomers ≡ with 0 same
is_he newcomers actor same only is = only ∙ ap (with 0) (sym is)

pub at-requires-clause-known : goal.at-requires-clause-known
at-requires-clause-known g c =
    let party = c.args.party.now in
    subst (λ (all : ℕ). all < length c.arrived-one.result.newcomer.all.now * 2 ^ g.B.BySet.places) (sym c.all-all.ensures)
    (known_set (length c.arrived-one.result.newcomer.all.now) party.higher g.B.BySet.places (full (size party.crew.now.group.0)) c.arrived-one.ensures.arrived.newcomer.sized.1
    (full_small (size party.crew.now.group.0) (party.higher + g.B.BySet.places) c.requires.party.crew.fits))

pub at-requires-2-clause-known : goal.at-requires-2-clause-known
at-requires-2-clause-known g c =
    let party = c.args.party.now in
    subst (λ (all : ℕ). all < length c.arrived-one.result.row.now * 2 ^ g.B.BySet.places) (sym c.all-all.ensures)
    (known_set (length c.arrived-one.result.row.now) party.higher g.B.BySet.places (full (size party.crew.now.group.0)) c.arrived-one.ensures.arrived.sized
    (full_small (size party.crew.now.group.0) (party.higher + g.B.BySet.places) c.requires.party.crew.fits))

pub overflow_mul-result : goal.overflow_mul-result
overflow_mul-result g c =
    let value = number g.B.BySet.value g.B.BySet.places in
    let count : ℕ = c.args.party.now.higher + g.B.BySet.places in
    let film : GroupData = c.args.self.now in
    let party = c.args.party.now in
    let known = c.requires.party in
    let all : ℕ = full (size party.crew.now.group.0) in
    let lt : all < 2 ^ count = full_small (size party.crew.now.group.0) count known.crew.fits in
    let is : party.crew.now.rate * c.at.result ≡ sum_over party.crew.now.holds all * value c.arrived-one.result.newcomer.all.now all
    = (λ i. known.crew.rate i * (c.at.ensures ∙ ap (value c.arrived-one.result.newcomer.all.now) c.all-all.ensures) i) in
    let low = paid_low value count g.B.BySet.most film party known (sum_over party.crew.now.holds all) (value c.arrived-one.result.newcomer.all.now all) (rates_all_low value count g.B.BySet.most film party known all lt)
    (all_few value count g.B.BySet.most film party known c.arrived-one.result.newcomer c.arrived-one.ensures.arrived.newcomer all lt) in
    record { fits = omega (arith, is, low, known.room, g.met.B.BySet.narrow) }

pub overflow_add-result : goal.overflow_add-result
overflow_add-result g c =
    let value = number g.B.BySet.value g.B.BySet.places in
    let count : ℕ = c.args.party.now.higher + g.B.BySet.places in
    let film : GroupData = c.args.self.now in
    let party = c.args.party.now in
    let known = c.requires.party in
    let all : ℕ = full (size party.crew.now.group.0) in
    let lt : all < 2 ^ count = full_small (size party.crew.now.group.0) count known.crew.fits in
    let is : party.crew.now.rate * c.at.result ≡ sum_over party.crew.now.holds all * value c.arrived-one.result.newcomer.all.now all
    = (λ i. known.crew.rate i * (c.at.ensures ∙ ap (value c.arrived-one.result.newcomer.all.now) c.all-all.ensures) i) in
    let low = paid_low value count g.B.BySet.most film party known (sum_over party.crew.now.holds all) (value c.arrived-one.result.newcomer.all.now all) (rates_all_low value count g.B.BySet.most film party known all lt)
    (all_few value count g.B.BySet.most film party known c.arrived-one.result.newcomer c.arrived-one.ensures.arrived.newcomer all lt) in
    record { fits = omega (arith, is, low, known.room, g.met.B.BySet.narrow) }

pub overflow_sub-result : goal.overflow_sub-result
overflow_sub-result g c =
    let value = number g.B.BySet.value g.B.BySet.places in
    let count : ℕ = c.args.party.now.higher + g.B.BySet.places in
    let film : GroupData = c.args.self.now in
    let party = c.args.party.now in
    let known = c.requires.party in
    let all : ℕ = full (size party.crew.now.group.0) in
    let lt : all < 2 ^ count = full_small (size party.crew.now.group.0) count known.crew.fits in
    let is : party.crew.now.rate * c.at.result ≡ sum_over party.crew.now.holds all * value c.arrived-one.result.newcomer.all.now all
    = (λ i. known.crew.rate i * (c.at.ensures ∙ ap (value c.arrived-one.result.newcomer.all.now) c.all-all.ensures) i) in
    let low = paid_low value count g.B.BySet.most film party known (sum_over party.crew.now.holds all) (value c.arrived-one.result.newcomer.all.now all) (rates_all_low value count g.B.BySet.most film party known all lt)
    (all_few value count g.B.BySet.most film party known c.arrived-one.result.newcomer c.arrived-one.ensures.arrived.newcomer all lt) in
    let saved : c.at-2.result ≡ value c.arrived-one.result.row.now all = c.at-2.ensures ∙ ap (value c.arrived-one.result.row.now) c.all-all.ensures in
    omega (arith, is, saved, c.arrived-one.ensures.arrived.saved.high all lt)

pub returns : goal.returns
returns g c =
    let value = number g.B.BySet.value g.B.BySet.places in
    let count : ℕ = c.args.party.now.higher + g.B.BySet.places in
    let film : GroupData = c.args.self.now in
    let party = c.args.party.now in
    let known = c.requires.party in
    let all : ℕ = full (size party.crew.now.group.0) in
    let lt : all < 2 ^ count = full_small (size party.crew.now.group.0) count known.crew.fits in
    let is : party.crew.now.rate * c.at.result ≡ sum_over party.crew.now.holds all * value c.arrived-one.result.newcomer.all.now all
    = (λ i. known.crew.rate i * (c.at.ensures ∙ ap (value c.arrived-one.result.newcomer.all.now) c.all-all.ensures) i) in
    let low = paid_low value count g.B.BySet.most film party known (sum_over party.crew.now.holds all) (value c.arrived-one.result.newcomer.all.now all) (rates_all_low value count g.B.BySet.most film party known all lt)
    (all_few value count g.B.BySet.most film party known c.arrived-one.result.newcomer c.arrived-one.ensures.arrived.newcomer all lt) in
    let saved : c.at-2.result ≡ value c.arrived-one.result.row.now all = c.at-2.ensures ∙ ap (value c.arrived-one.result.row.now) c.all-all.ensures in
    let total : ℕ → ℕ = λ places. party.never + sum_over party.crew.now.holds places * value c.arrived-one.result.newcomer.all.now places + 0 - value c.arrived-one.result.row.now places in
    let paid : party.never + party.crew.now.rate * c.at.result - c.at-2.result ≡ total all = omega (arith, is, saved) in
    let fits : all < 2 ^ size party.crew.now.group.0 = full_small (size party.crew.now.group.0) (size party.crew.now.group.0) (omega arith) in
    subst (λ (gross : ℕ). IsGross film party.crew.now.set.0 party.crew.now.group.0 (at_first party.newcomers.0) gross) (sym paid)
    (one_comes film party.crew.now.set.0 party.crew.now.group.0 party.newcomers.0 known.company c.arrived-one.result.newcomer.actor (total all)
    (is_he party.newcomers.0 c.args.actor c.arrived-one.result.newcomer.actor c.requires.only c.arrived-one.ensures.actor) (c.arrived-one.ensures.arrived.saved.least all fits))
