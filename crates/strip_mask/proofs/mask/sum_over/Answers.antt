use Rattle.std.proofs.Common.{◌≡◌, ◌∙◌, sum_by, slice_index, arith}
use Rattle.strip_mask.specs.Iter.{rest_of}
use Rattle.strip_mask.proofs.Turns.{turn_member, turn_fits, turns_sum}
use Rattle.strip_mask.proofs.mask.sum_over.Goals as goal

pub bounds-values-i : goal.bounds-values-i
bounds-values-i c = c.requires.within c.in-Some.i (turn_member c.args.m.0 c.in-Some.i c.loop-i.yielded (rest_of c.loop-i.i-iterator) (rest_of c.next.new.self) c.loop-i.invariant.1 c.in-Some.ensures.steps)

pub overflow_add-sum : goal.overflow_add-sum
overflow_add-sum c =
    let fits = turn_fits c.args.values.now c.args.m.0 c.in-Some.i c.loop-i.yielded (rest_of c.loop-i.i-iterator) (rest_of c.next.new.self) c.loop-i.invariant.1 c.in-Some.ensures.steps in
    let sum : c.loop-i.sum ≡ sum_by (slice_index c.args.values.now) c.loop-i.yielded = c.loop-i.invariant.0 in
    omega arith

pub returns : goal.returns
returns c = c.loop-i.invariant.0 ∙ turns_sum c.args.values.now c.args.m.0 c.loop-i.yielded (rest_of c.loop-i.i-iterator) c.loop-i.invariant.1 c.in-None.ensures.steps.0
