use Rattle.std.proofs.Common.{◌≡◌, ◌<◌, ap, arith}
use Rattle.strip_film.specs.Shown.{path_data}
use Rattle.strip_hand.specs.Search.{SearchData}
use Rattle.strip_book.proofs.Passed.{makes_so}
use Rattle.strip_book.proofs.Told.{sees_at}
use Rattle.strip_book.proofs.pass.BookPass.enlist.Goals as goal

pub load-requires : goal.load-requires
load-requires c =
    let p = c.requires.pass in (
      p.table,
      omega (arith, c.args.book.now.words),
      sees_at c.args.book.now.table.shared.key c.args.book.now.table.shared.table_id.slots c.args.self.now.seat.id c.args.self.now.seat.me p.no_slots p.idle p.some_weight,
    )

pub returns-clause-listed : goal.returns-clause-listed
returns-clause-listed c =
    let nodes : c.args.self.now.seat.me.0.search.nodes ≡ c.args.book.now.table.shared.key.nodes = ap (λ (q : SearchData). q.nodes) c.requires.pass.search in
    let below : c.draw-number.result < c.args.self.now.seat.me.0.search.nodes = omega (arith, c.if-number-from.false, c.from.ensures, c.args.book.now.counts, nodes) in
    makes_so c.args.self.now.seat.me.0 c.draw-number.new.seat.me.0 c.write.new.seat.me.0 c.args.part (path_data c.args.path.now) c.args.bound c.draw-number.result c.requires.may
    (c.draw-number.ensures.drawn.made below) c.write.ensures.written
