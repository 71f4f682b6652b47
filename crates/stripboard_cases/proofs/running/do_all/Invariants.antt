use Rattle.std.proofs.Common.{take}
use Rattle.stripboard_cases.specs.Runs.{InTurn, IsDone}
use Rattle.stripboard_cases.proofs.running.do_all.Given as goal

abbrev pub invariant-loop-action : goal.invariant-loop-action
invariant-loop-action g l = InTurn IsDone (take l.action-index l.actions) l.fn.files.items l.files.items
