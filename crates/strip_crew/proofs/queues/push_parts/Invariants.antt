use Rattle.std.proofs.Common.{◌≡◌, ◌++◌, take}
use Rattle.strip_crew.specs.Race.{parts_where}
use Rattle.strip_crew.proofs.queues.push_parts.Given as goal

abbrev pub invariant-loop-task : goal.invariant-loop-task
invariant-loop-task l = l.numbers.items ≡ l.fn.numbers.items ++ parts_where l.fn.asked 1 (take l.task l.fn.wanted)
