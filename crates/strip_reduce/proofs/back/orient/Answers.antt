use Rattle.std.proofs.Common.{rules, ◌≡◌, ◌∙◌, sym}
use Rattle.strip_model.proofs.Counts.{order_permuted}
use Rattle.strip_model.proofs.Pays.{pay-reverse}
use Rattle.strip_reduce.specs.Oriented.{oriented}
use Rattle.strip_reduce.proofs.Ends.{oriented-reverse}
use Rattle.strip_reduce.proofs.back.orient.Goals as goal

pub returns-then-order-clause-order : goal.returns-then-order-clause-order
returns-then-order-clause-order c = λ n is. order_permuted n c.args.order.now c.reverse.new.self is c.reverse.ensures.permutation

pub returns-then-order-clause-pay : goal.returns-then-order-clause-pay
returns-then-order-clause-pay c = λ film. rw c.reverse.ensures.after (pay-reverse film c.args.order.now)

pub returns-else-not-is_empty-clause-same : goal.returns-else-not-is_empty-clause-same
returns-else-not-is_empty-clause-same c =
    let stays : c.args.order.now ≡ oriented c.args.order.now = search rules in
    λ n is. oriented-reverse n c.args.order.now is ∙ sym stays
