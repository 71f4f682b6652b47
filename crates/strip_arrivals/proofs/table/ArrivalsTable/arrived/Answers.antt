use Rattle.std.proofs.Common.{◌≡◌, ◌<◌, ◌+◌, ◌*◌, ◌-◌, ◌^◌, ◌≤◌, ℕ, [], length, sym, subst, arith}
use Rattle.std.proofs.Math.Pow.{pow_mono}
use Rattle.strip_mask.specs.Set.{size, sum_over}
use Rattle.strip_group.specs.Group.{GroupData}
use Rattle.strip_sets.specs.Numbers.{number}
use Rattle.strip_arrivals.specs.Company.{staying}
use Rattle.strip_arrivals.specs.Gross.{IsGross}
use Rattle.strip_arrivals.proofs.Tables.{known_set}
use Rattle.strip_arrivals.proofs.table.ArrivalsTable.arrived.Goals as goal

-- the copy saves what the row does
pub alone-requires-clause-over : goal.alone-requires-clause-over
alone-requires-clause-over g c =
    let value = number g.B.BySet.value g.B.BySet.places in
    let film : GroupData = c.args.self.now in
    let party = c.args.party.now in
    let known = c.requires.party in
    let count : ℕ = party.higher + g.B.BySet.places in
    let over = c.requires.over in
    let some : 2 ^ size party.crew.now.group.0 ≤ 2 ^ count = pow_mono known.crew.fits in
    let copied : (places : ℕ) → places < 2 ^ count → value c.copy.new.table places ≡ value c.args.over.now places
    = λ places lt. c.copy.ensures.each places (known_set (length c.split_at_mut-row.result.0.now) party.higher g.B.BySet.places places
    (omega (arith, c.split_at_mut-row.ensures.front_len, known.sized)) lt) in
    record {
      least = λ places lt. subst (λ (saved : ℕ). IsGross film party.crew.now.set.0 party.crew.now.group.0 (staying party.crew.now.group.0 0 [] party.newcomers.0 places)
          (party.never + sum_over party.crew.now.holds places * value party.days.now places + 0 - saved)) (sym (copied places (omega (arith, lt, some)))) (over.least places lt);
      low = λ places lt. omega (arith, copied places lt, over.low places lt);
      high = λ places lt. omega (arith, copied places lt, over.high places lt);
    }
