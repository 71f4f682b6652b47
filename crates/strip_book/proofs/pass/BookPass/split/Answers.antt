use Rattle.std.proofs.Common.{arith}
use Rattle.strip_book.proofs.Parted.{splits}
use Rattle.strip_book.proofs.pass.BookPass.split.Goals as goal

pub split_seat-seat-requires : goal.split_seat-seat-requires
split_seat-seat-requires c = (
  c.requires.pass.table,
  omega (arith, c.args.book.now.words),
  splits c.args.book.now.table.shared.key c.args.self.now.seat.id c.args.self.now.seat.me.0 c.requires.weight c.requires.pass.idle,
)
