use Rattle.std.proofs.Common.{inl, refl}
use Rattle.strip_solve.proofs.plan.cheaper.Goals as goal

pub returns-in-Some : goal.returns-in-Some
returns-in-Some c = inl (record { rows = c.in-Some.rows; same = c.in-Some.is; cheaper = c.if-own-cost.true; taken = refl; costs = refl })
