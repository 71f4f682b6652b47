use Rattle.std.proofs.Common.{◌+◌, [], None, length, refl, sym, ◌∙◌}
use Rattle.strip_text.proofs.Making.{below-fault, below-more, fails, passes}
use Rattle.strip_check.specs.Reasons.{pair_at, pair_check, stands_before}
use Rattle.strip_check.specs.declared.verdict.Reason.TheVariants.{BrokenPair}
use Rattle.strip_check.proofs.order.against_pairs.Goals as goal

pub returns-then-not-keeps_pair : goal.returns-then-not-keeps_pair
returns-then-not-keeps_pair c =
    let place = c.loop-place.place in
    let pair = pair_at c.args.pairs.now place in
    sym (below-fault place (length c.args.pairs.now) (pair_check c.args.pairs.now c.args.order.now) (BrokenPair (place + 1)) c.loop-place-test.true c.loop-place.invariant
    (fails (stands_before pair.first pair.then c.args.order.now) (BrokenPair (place + 1)) [] (sym c.keeps_pair.ensures ∙ c.if-not-keeps_pair.true)))

pub loop-place-preserved : goal.loop-place-preserved
loop-place-preserved c =
    let place = c.loop-place.place in
    let pair = pair_at c.args.pairs.now place in
    below-more place (pair_check c.args.pairs.now c.args.order.now) c.loop-place.invariant
    (passes (stands_before pair.first pair.then c.args.order.now) (BrokenPair (place + 1)) [] None (sym c.keeps_pair.ensures ∙ c.if-not-keeps_pair.false) refl)
