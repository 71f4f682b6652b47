use Rattle.std.proofs.Common.{arith}
use Rattle.strip_least.proofs.Told.{looks_at}
use Rattle.strip_least.proofs.pass.LeastPass.look.Goals as goal

pub load-requires : goal.load-requires
load-requires c = (
  c.requires.table,
  omega (arith, c.args.least.now.two_words),
  looks_at c.args.least.now.table.shared.key c.args.least.now.table.shared.table_id.slots c.args.self.now.seat.id c.args.self.now.seat.me c.requires.some_weight c.requires.no_slots,
)
