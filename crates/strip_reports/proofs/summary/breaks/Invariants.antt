use Rattle.std.proofs.Common.{◌≡◌, ◌==◌, drop}
use Rattle.strip_model.specs.Pay.{from_first}
use Rattle.strip_reports.proofs.summary.breaks.Given as goal

-- the other scene wasn't passed
abbrev pub invariant-loop-place : goal.invariant-loop-place
invariant-loop-place l = from_first (λ scene. scene == l.pair.then) l.order ≡ from_first (λ scene. scene == l.pair.then) (drop l.place l.order)
