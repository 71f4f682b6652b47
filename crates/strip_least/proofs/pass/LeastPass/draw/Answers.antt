use Rattle.std.proofs.Common.{arith}
use Rattle.strip_least.proofs.Drawn.{draws_at}
use Rattle.strip_least.proofs.pass.LeastPass.draw.Goals as goal

pub fetch_add-found-requires : goal.fetch_add-found-requires
fetch_add-found-requires c = (
  c.requires.pass.table,
  omega (arith, c.args.least.now.two_words),
  draws_at c.args.least.now.table.shared.key c.args.least.now.table.shared.table_id.slots c.args.self.now.seat.id c.args.self.now.seat.me
      c.requires.pass.some_weight c.requires.pass.no_slots c.requires.unended,
)
