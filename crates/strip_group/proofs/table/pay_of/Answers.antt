use Rattle.std.proofs.Common.{◌∙◌, arith}
use Rattle.strip_group.specs.Saved.{left_by}
use Rattle.strip_group.proofs.Alone.{alone_of_six}
use Rattle.strip_mask.proofs.Totals.{sum_over_le_sum}
use Rattle.strip_group.proofs.Saved.{room_of, saved_of_six}
use Rattle.strip_group.proofs.table.pay_of.Goals as goal

pub saved-requires-clause-room : goal.saved-requires-clause-room
saved-requires-clause-room g c = room_of g.T.BySet.places g.T.BySet.most c.args.rates.now c.args.sums.now c.args.stays.now c.args.q.0 (g.T.BySet.value c.by_set-days.result)
    (g.T.BySet.value c.none.result)
    c.by_set-days.ensures c.none.ensures (omega (arith, c.requires.places)) (omega (arith, c.told-rates)) c.requires.rates c.requires.room

pub paid_alone-requires-clause-days : goal.paid_alone-requires-clause-days
paid_alone-requires-clause-days g c = λ set lt. (
    let all = sum_over_le_sum c.args.sums.now (left_by c.args.stays.now g.T.BySet.places set c.args.q.0) c.requires.short in
    let told = c.by_set-days.ensures set lt in
    omega (arith, all, told, c.requires.day_sum))

pub returns-clause-alone : goal.returns-clause-alone
returns-clause-alone g c = c.paid_alone.ensures
    ∙ alone_of_six g.T.BySet.places c.requires.places c.args.rates.now c.args.sums.now c.args.stays.now c.args.q.0 (g.T.BySet.value c.by_set-days.result) c.by_set-days.ensures

pub returns-clause-saved : goal.returns-clause-saved
returns-clause-saved g c = saved_of_six g.T.BySet.places c.requires.places c.args.rates.now c.args.sums.now c.args.stays.now c.args.q.0 c.last.result
    (g.T.BySet.value c.by_set-days.result) (g.T.BySet.value c.none.result)
    (g.T.BySet.value c.saved.result) c.saved.ensures c.by_set-days.ensures c.none.ensures c.last.ensures
