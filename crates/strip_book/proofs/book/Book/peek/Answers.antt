use Rattle.std.proofs.Common.{arith}
use Rattle.strip_book.proofs.book.Book.peek.Goals as goal

pub peek-drawn-requires : goal.peek-drawn-requires
peek-drawn-requires c = omega (arith, c.args.self.now.words)

pub returns : goal.returns
returns c = omega (arith, c.min.ensures, c.from.ensures, c.args.self.now.counts)
