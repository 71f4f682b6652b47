use Rattle.std.proofs.Common.{List, ℕ, sym, subst, arith}
use Rattle.strip_instance.specs.Steps.{CameCloser}
use Rattle.strip_instance.proofs.Closer.{AreNear, all_small, near-begin, near-more, steps-all, steps-settled}
use Rattle.strip_instance.proofs.way.steps_to.Goals as goal

pub loop-pass-init : goal.loop-pass-init
loop-pass-init c = near-begin c.args.pairs.now c.args.to c.requires.to

pub come_closer-requires-clause-small : goal.come_closer-requires-clause-small
come_closer-requires-clause-small c = all_small c.loop-pass.steps c.loop-pass.invariant.small

pub returns-then-not-come_closer : goal.returns-then-not-come_closer
returns-then-not-come_closer c =
    let settled = c.come_closer.ensures.settled c.if-not-come_closer.true in
    steps-settled c.args.pairs.now c.args.to c.loop-pass._pass c.come_closer.new.steps
    (subst (AreNear c.args.pairs.now c.args.to c.loop-pass._pass) (sym settled) c.loop-pass.invariant)
    (subst (λ (steps : List ℕ). CameCloser c.args.pairs.now steps c.come_closer.new.steps) (sym settled) c.come_closer.ensures.closer)

pub loop-pass-preserved : goal.loop-pass-preserved
loop-pass-preserved c = near-more c.args.pairs.now c.args.to c.loop-pass._pass c.loop-pass.steps c.come_closer.new.steps c.loop-pass.invariant c.come_closer.ensures.closer

pub returns : goal.returns
returns c = steps-all c.args.pairs.now c.args.to c.loop-pass.steps (subst (λ (passes : ℕ). AreNear c.args.pairs.now c.args.to passes c.loop-pass.steps) (omega arith) c.loop-pass.invariant)
