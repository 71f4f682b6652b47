use Rattle.std.proofs.Common.{length}
use Rattle.strip_reduce.specs.Search.{can_join_marked, NoTwoBelow}
use Rattle.strip_reduce.proofs.search.equal_scenes.Given as goal

abbrev pub invariant-loop-a : goal.invariant-loop-a
invariant-loop-a l = NoTwoBelow l.a (length l.casts) (can_join_marked l.casts l.marks)
