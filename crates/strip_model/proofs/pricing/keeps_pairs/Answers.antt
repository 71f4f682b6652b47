use Rattle.std.proofs.Common.{◌↔◌, List, subst}
use Rattle.std.specs.Bool.{IsTrue}
use Rattle.strip_model.specs.declared.pair.Pair.{Pair}
use Rattle.strip_model.specs.Order.{Keeps}
use Rattle.strip_model.proofs.pricing.keeps_pairs.Goals as goal

pub returns : goal.returns
returns c = subst (λ (pairs : List Pair). IsTrue c.keeps.result ↔ Keeps pairs c.args.order.now) c.pairs.ensures.pairs c.keeps.ensures
