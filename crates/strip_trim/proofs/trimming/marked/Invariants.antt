use Rattle.std.proofs.Common.{◌≡◌}
use Rattle.strip_trim.proofs.Places.{marked_below}
use Rattle.strip_trim.proofs.trimming.marked.Given as goal

-- the lines so far that are marked
abbrev pub invariant-loop-place : goal.invariant-loop-place
invariant-loop-place l = l.kept.items ≡ marked_below l.lines l.marks l.place
