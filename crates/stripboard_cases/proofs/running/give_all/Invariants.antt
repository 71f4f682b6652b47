use Rattle.std.proofs.Common.{take}
use Rattle.stripboard_cases.specs.AtHand.{IsGiven}
use Rattle.stripboard_cases.specs.Runs.{InTurn}
use Rattle.stripboard_cases.proofs.running.give_all.Given as goal

abbrev pub invariant-loop-given : goal.invariant-loop-given
invariant-loop-given l = InTurn IsGiven (take l.given-index l.all) l.fn.files.items l.files.items
