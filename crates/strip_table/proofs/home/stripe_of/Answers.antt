use Rattle.std.proofs.Common.{ℕ, ◌/◌, ◌^◌, ap}
use Rattle.strip_table.specs.Home.{stripe_of}
use Rattle.strip_table.proofs.home.stripe_of.Goals as goal

pub returns-clause-stripe : goal.returns-clause-stripe
unfolding stripe_of
returns-clause-stripe c = ap (λ (h : ℕ). h / 2 ^ 60) c.hash.ensures
