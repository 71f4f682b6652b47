use Rattle.std.proofs.Common.{◌≡◌, take}
use Rattle.strip_lines.specs.Lines.{known}
use Rattle.strip_hand.specs.Search.{search_rules}
use Rattle.strip_world.proofs.world.World.known.Given as goal

-- what the lines so far make known
abbrev pub invariant-loop-line : goal.invariant-loop-line
invariant-loop-line g l = l.greatest ≡ known (search_rules l.fn.self.search) (take l.line-index l.fn.self.lines) l.fn.set.0
