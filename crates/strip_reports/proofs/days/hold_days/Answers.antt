use Rattle.std.proofs.Common.{arith, ◌∙◌}
use Rattle.strip_reports.proofs.Counted.{few_holds, hold_next, next_done, waits_told}
use Rattle.strip_reports.proofs.days.hold_days.Goals as goal

pub counted-hold-requires : goal.counted-hold-requires
counted-hold-requires c = omega (arith, c.loop-crew.invariant.hold, few_holds c.args.crews.now c.args.actor c.loop-crew.crew-index, c.loop-crew-test.true, c.requires.few)

pub loop-crew-preserved : goal.loop-crew-preserved
loop-crew-preserved c =
    let crews = c.args.crews.now in
    let actor = c.args.actor in
    let k = c.loop-crew.crew-index in
    record {
      done = c.counted-done.ensures
          ∙ next_done crews actor k c.loop-crew.done c.has-works.result (omega arith) c.has-works.ensures c.loop-crew.invariant.done;
      hold = c.counted-hold.ensures
          ∙ hold_next crews actor k c.loop-crew.hold c.waits.result
          (c.waits.ensures ∙ waits_told crews actor k c.loop-crew.done c.args.work c.has-works.result (omega arith) c.has-works.ensures c.loop-crew.invariant.done c.requires.work)
          c.loop-crew.invariant.hold;
    }
