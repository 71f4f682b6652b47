use Rattle.strip_least.specs.Pass.{IsPassOf}
use Rattle.test_workers.proofs.least.claim_all.Given as goal

abbrev pub invariant-loop-turn : goal.invariant-loop-turn
invariant-loop-turn l = IsPassOf l.least l.pass
