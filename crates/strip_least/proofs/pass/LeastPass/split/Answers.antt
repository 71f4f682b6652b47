use Rattle.std.proofs.Common.{arith}
use Rattle.strip_least.proofs.Parted.{splits}
use Rattle.strip_least.proofs.pass.LeastPass.split.Goals as goal

pub split_seat-seat-requires : goal.split_seat-seat-requires
split_seat-seat-requires c = (
  c.requires.pass.table,
  omega (arith, c.args.least.now.two_words),
  splits c.args.least.now.table.shared.key c.args.self.now.seat.id c.args.self.now.seat.me.0 c.requires.weight,
)
