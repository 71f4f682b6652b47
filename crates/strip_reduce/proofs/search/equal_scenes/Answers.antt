use Rattle.std.proofs.Common.{length, sym, arith}
use Rattle.strip_reduce.specs.Search.{can_join_marked}
use Rattle.strip_reduce.proofs.Least.{first_two, next_apart, no_two}
use Rattle.strip_reduce.proofs.search.equal_scenes.Goals as goal

pub returns-in-Some : goal.returns-in-Some
returns-in-Some c =
    sym (first_two (length c.args.casts.now) (can_join_marked c.args.casts.now c.args.marks.now) c.loop-a.a c.in-Some.b c.loop-a.invariant (sym c.in-Some.ensures))

pub loop-a-preserved : goal.loop-a-preserved
loop-a-preserved c =
    next_apart (length c.args.casts.now) (can_join_marked c.args.casts.now c.args.marks.now) c.loop-a.a c.loop-a.invariant (sym c.in_default.ensures)

pub returns : goal.returns
returns c = sym (no_two (length c.args.casts.now) (can_join_marked c.args.casts.now c.args.marks.now) c.loop-a.a (omega arith) c.loop-a.invariant)
