use Rattle.std.proofs.Common.{◌<◌, length, sym, arith}
use Rattle.strip_reduce.specs.Search.{can_join_marked}
use Rattle.strip_reduce.proofs.Least.{behind_is, behind_none}
use Rattle.strip_reduce.proofs.Searching.{marked_out, can_join_is}
use Rattle.strip_reduce.proofs.search.equal_behind.Goals as goal

pub returns-then-marks-a : goal.returns-then-marks-a
returns-then-marks-a c =
    sym (behind_none (length c.args.casts.now) (can_join_marked c.args.casts.now c.args.marks.now) c.args.a
    (λ j _ _. marked_out c.args.casts.now c.args.marks.now c.args.a j c.if-marks-a.true))

pub returns-then-not-marks-b : goal.returns-then-not-marks-b
returns-then-not-marks-b c =
    let behind : c.args.a < c.loop-b.b = omega arith in
    sym (behind_is (length c.args.casts.now) (can_join_marked c.args.casts.now c.args.marks.now) c.args.a c.loop-b.b behind c.loop-b-test.true
    (can_join_is c.args.casts.now c.args.marks.now c.args.a c.loop-b.b (sym c.if-casts-b.true) c.if-marks-a.false c.if-not-marks-b.true) c.loop-b.invariant)

pub returns : goal.returns
returns c =
    sym (behind_none (length c.args.casts.now) (can_join_marked c.args.casts.now c.args.marks.now) c.args.a
    (λ j past small. c.loop-b.invariant j past (omega arith)))
