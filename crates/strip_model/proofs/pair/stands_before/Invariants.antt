use Rattle.std.proofs.Common.{drop}
use Rattle.strip_model.specs.Order.{StandsBefore}
use Rattle.strip_model.proofs.pair.stands_before.Given as goal

-- what was passed doesn't begin it
abbrev pub invariant-loop-place : goal.invariant-loop-place
invariant-loop-place l = StandsBefore l.first l.then l.order → StandsBefore l.first l.then (drop l.place l.order)
