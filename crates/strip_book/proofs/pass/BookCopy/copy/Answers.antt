use Rattle.std.proofs.Common.{arith}
use Rattle.strip_book.specs.Pass.{table_of}
use Rattle.strip_book.proofs.Parted.{copies}
use Rattle.strip_book.proofs.Passed.{copied_copy, same_copy}
use Rattle.strip_book.proofs.pass.BookCopy.copy.Goals as goal

pub split_seat-seat-requires : goal.split_seat-seat-requires
split_seat-seat-requires c = (
  c.requires.words,
  omega (arith, c.args.book.now.words),
  copies c.args.book.now.table.shared.key c.args.self.now.seat.id c.args.self.now.seat.me.0,
)

pub returns-clause-kept : goal.returns-clause-kept
returns-clause-kept c =
    let e = c.split_seat-seat.ensures in
    same_copy (table_of c.args.book.now) c.args.self.now _ c.requires e.0 e.2

pub returns-clause-copy : goal.returns-clause-copy
returns-clause-copy c =
    let e = c.split_seat-seat.ensures in
    copied_copy (table_of c.args.book.now) c.args.self.now _ c.requires e.3 e.4
