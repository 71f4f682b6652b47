use Rattle.std.proofs.Common.{arith}
use Rattle.strip_book.proofs.Passed.{seen_pass, settles_so}
use Rattle.strip_book.proofs.Told.{sees_at}
use Rattle.strip_book.proofs.pass.BookPass.settle.Goals as goal

pub load-requires : goal.load-requires
load-requires c = (
  c.requires.table,
  omega (arith, c.args.book.now.words),
  sees_at c.args.book.now.table.shared.key c.args.book.now.table.shared.table_id.slots c.args.self.now.seat.id c.args.self.now.seat.me c.requires.no_slots c.requires.idle
      c.requires.some_weight,
)

pub returns-clause-pass : goal.returns-clause-pass
returns-clause-pass c = (let e = c.load.ensures in seen_pass c.args.book.now c.args.self.now _ c.requires e.0 e.2.1 e.2.0)

pub returns-clause-settled : goal.returns-clause-settled
returns-clause-settled c = settles_so c.args.self.now.seat.me.0 c.load.new.seat.me.0 c.load.ensures.2.0
