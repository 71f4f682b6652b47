use Rattle.strip_rule.proofs.Exchange.{exchange}
use Rattle.strip_rule.proofs.laws.the_exchange_costs_no_more.Goals as goal

pub returns : goal.returns
returns c = λ film set first second later is. exchange film is set first second later
