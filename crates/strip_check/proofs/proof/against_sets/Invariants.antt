use Rattle.std.proofs.Common.{◌≡◌, None}
use Rattle.strip_text.specs.Checks.{below, first_fault}
use Rattle.strip_check.specs.Reasons.{set_check}
use Rattle.strip_check.proofs.proof.against_sets.Given as goal

-- the sets so far lie in the film
abbrev pub invariant-loop-place : goal.invariant-loop-place
invariant-loop-place l = first_fault (below l.place (set_check l.film l.lines)) ≡ None
