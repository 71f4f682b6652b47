use Rattle.std.proofs.Common.{◌<◌, List, ℕ, [], ◌∷◌, ◌++◌, sym, ap, ◌∙◌, subst, arith}
use Rattle.strip_instance.proofs.Ways.{begin_below, last_below, second_below}
use Rattle.strip_instance.proofs.Nearer.{GoesOn, begins_near, goes_on-begin, goes_on-more, goes_on-end}
use Rattle.strip_instance.proofs.way.shortest_way.Goals as goal

pub steps_to-steps-requires-clause-to : goal.steps_to-steps-requires-clause-to
steps_to-steps-requires-clause-to c = last_below c.args.pairs.now 200 c.requires.known c.args.from c.args.to c.requires.leads

pub loop-next-init : goal.loop-next-init
loop-next-init c =
    let known : c.args.from < 200 = begin_below c.args.pairs.now 200 c.requires.known c.args.from c.args.to c.requires.leads in
    record {
      known = known;
      near = begins_near c.args.pairs.now c.args.to c.steps_to-steps.result c.requires.known c.steps_to-steps.ensures c.args.from known c.requires.leads;
      on = subst (GoesOn c.args.pairs.now c.args.to c.args.from c.args.from)
          (sym (c.in_ok-push.ensures.items ∙ ap (λ (xs : List ℕ). xs ++ c.args.from ∷ []) c.new-way.ensures.items))
          (goes_on-begin c.args.pairs.now c.args.to c.args.from);
    }

pub loop-next-preserved : goal.loop-next-preserved
loop-next-preserved c = record {
  known = second_below c.args.pairs.now 200 c.requires.known c.loop-next.scene c.in-Some.next c.in-Some.ensures.nearer.0;
  near = omega (arith, c.in-Some.ensures.nearer.1, c.loop-next.invariant.near);
  on = subst (GoesOn c.args.pairs.now c.args.to c.args.from c.in-Some.next) (sym c.in_ok-push-2.ensures.items)
      (goes_on-more c.args.pairs.now c.args.to c.steps_to-steps.result c.requires.known c.steps_to-steps.ensures c.args.from c.loop-next.scene c.in-Some.next c.loop-next.way.items
      c.loop-next.invariant.near c.in-Some.ensures c.loop-next.invariant.on);
}

pub returns : goal.returns
returns c = goes_on-end c.args.pairs.now c.args.to c.steps_to-steps.result c.requires.known c.steps_to-steps.ensures c.args.from c.loop-next.scene c.loop-next.way.items
    c.requires.apart c.loop-next.invariant.known c.loop-next.invariant.near c.in_default.ensures c.loop-next.invariant.on
