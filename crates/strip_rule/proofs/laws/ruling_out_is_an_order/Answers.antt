use Rattle.strip_rule.proofs.Fits.{rules_out-chain}
use Rattle.strip_rule.proofs.laws.ruling_out_is_an_order.Goals as goal

pub returns-clause-transitive : goal.returns-clause-transitive
returns-clause-transitive c = rules_out-chain
