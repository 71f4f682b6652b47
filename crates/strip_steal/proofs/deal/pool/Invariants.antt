use Rattle.std.proofs.Common.{map}
use Rattle.crossbeam_deque.specs.Handles.{worker_view}
use Rattle.strip_steal.proofs.Deals.{AreFilled}
use Rattle.strip_steal.proofs.deal.pool.Given as goal

abbrev pub invariant-loop-place : goal.invariant-loop-place
invariant-loop-place l = AreFilled l.count l.numbers l.place (map worker_view l.owners.items)
