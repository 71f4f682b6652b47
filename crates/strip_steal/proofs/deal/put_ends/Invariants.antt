use Rattle.std.proofs.Common.{◌≡◌, None, replicate}
use Rattle.crossbeam_deque.specs.Handles.{worker_view}
use Rattle.strip_steal.specs.Steps.{with_entries}
use Rattle.strip_steal.proofs.deal.put_ends.Given as goal

abbrev pub invariant-loop-turn : goal.invariant-loop-turn
invariant-loop-turn l = worker_view l.owner ≡ with_entries (worker_view l.initial.owner) (replicate l._turn None)
