use Rattle.std.proofs.Common.{◌≡◌, None}
use Rattle.strip_text.specs.Checks.{below, first_fault}
use Rattle.strip_check.specs.Reasons.{pair_check}
use Rattle.strip_check.proofs.order.against_pairs.Given as goal

-- the order keeps the pairs so far
abbrev pub invariant-loop-place : goal.invariant-loop-place
invariant-loop-place l = first_fault (below l.place (pair_check l.pairs l.order)) ≡ None
