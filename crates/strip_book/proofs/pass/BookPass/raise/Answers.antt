use Rattle.std.proofs.Common.{ap, arith}
use Rattle.strip_hand.specs.Search.{SearchData}
use Rattle.strip_book.proofs.Passed.{raised_pass, raises_so}
use Rattle.strip_book.proofs.Raised.{raises_at}
use Rattle.strip_book.proofs.pass.BookPass.raise.Goals as goal

pub fetch_max-requires : goal.fetch_max-requires
fetch_max-requires c =
    let p = c.requires.pass in (
      p.table,
      omega (arith, c.args.book.now.words, c.args.book.now.counts, c.bound_word-word.ensures, p.few, c.requires.may.there, ap (λ (q : SearchData). q.nodes) p.search),
      raises_at c.args.book.now.table.shared.key c.args.book.now.table.shared.table_id.slots c.args.self.now.seat.id c.args.self.now.seat.me p.no_slots p.idle p.some_weight c.args.line
          c.args.bound c.bound_word-word.result c.bound_word-word.ensures c.requires.may,
    )

pub returns-clause-pass : goal.returns-clause-pass
returns-clause-pass c =
    let e = c.fetch_max.ensures in
    raised_pass c.args.book.now c.args.self.now _ c.bound_word-word.result c.args.bound c.requires.pass e.0 e.2.1 e.2.0

pub returns-clause-raised : goal.returns-clause-raised
returns-clause-raised c =
    raises_so c.args.self.now.seat.me.0 c.fetch_max.new.seat.me.0 c.bound_word-word.result c.args.line c.args.bound c.bound_word-word.ensures c.fetch_max.ensures.2.0
