use Rattle.std.proofs.Common.{take}
use Rattle.stripboard_cases.specs.AtHand.{IsSource}
use Rattle.strip_io.specs.Held.{held_data}
use Rattle.stripboard_cases.proofs.files.source.Given as goal

abbrev pub invariant-loop-held : goal.invariant-loop-held
invariant-loop-held l = IsSource (take l.held-index l.files) (held_data l.source.files)
