use Rattle.std.proofs.Common.{◌≡◌, length, arith, ap, ◌∙◌}
use Rattle.stripboard_cases.proofs.Counts.{count_read, met_all, met_more}
use Rattle.stripboard_cases.proofs.judging.judge_cases.Goals as goal

pub loop-case-preserved : goal.loop-case-preserved
loop-case-preserved g c =
    let so_far = c.loop-case.invariant in
    let one = c.in_ok-judge_case.ensures in
    record {
      counted = omega (arith, so_far.counted, one.one);
      few = λ few. one.few (so_far.few few);
      earlier = λ none. so_far.earlier (one.earlier none);
      met = λ none. met_more c.args.cases.now.shared.items c.deref.result.now c.args.cases.now.cases.items c.deref-case-items.result.now c.loop-case.case-index c.case-item.result
          c.deref-case-items.ensures.value c.deref.ensures.value c.loop-case-test.true c.case-item.is (so_far.met (one.earlier none)) (one.met none);
      unread = c.judge_case.ensures.unread ∙ so_far.unread;
    }

pub returns : goal.returns
returns g c = λ files is.
    let so_far = c.loop-case.invariant in
    let whole = ap length c.deref-case-items.ensures.value in
    let at : c.loop-case.case-index ≡ length c.args.cases.now.cases.items = omega (arith, whole, c.loop-case-test.false) in
    count_read files c.args.cases.now c.args.tally.now.cases c.args.tally.now.differing c.loop-case.tally.cases c.loop-case.tally.differing c.args.tally.now.is_unread
    c.loop-case.tally.is_unread (omega (arith, so_far.counted, at)) so_far.few so_far.earlier
    (λ none. met_all c.args.cases.now.shared.items c.args.cases.now.cases.items c.loop-case.case-index (omega (arith, at)) (so_far.met none)) so_far.unread is
