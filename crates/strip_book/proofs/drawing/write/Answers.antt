use Rattle.std.proofs.Common.{◌∙◌, arith}
use Rattle.strip_film.specs.Shown.{path_data}
use Rattle.strip_book.proofs.Written.{fills_at, halves_at}
use Rattle.strip_book.proofs.drawing.write.Goals as goal

pub fetch_max-requires : goal.fetch_max-requires
fetch_max-requires c = (
  c.requires.seat.table,
  omega (arith, c.args.book.now.words, c.bound_word.ensures, c.requires.within),
  halves_at c.args.book.now.table.shared.key c.args.book.now.table.shared.table_id.slots c.args.seat.now.id c.args.seat.now.me c.requires.seat.no_slots c.args.line
      (path_data c.args.path.now) c.args.bound c.bound_word.result c.bound_word.ensures c.requires.writes,
)

pub store-requires : goal.store-requires
store-requires c =
    let e = c.fetch_max.ensures in (
      e.0 ∙ c.requires.seat.table,
      omega (arith, c.args.book.now.words, c.set_word.ensures, c.requires.within),
      fills_at c.args.book.now.table.shared.key c.args.book.now.table.shared.table_id.slots c.fetch_max.new.seat.id c.fetch_max.new.seat.me (e.2.1 ∙ c.requires.seat.no_slots)
          c.args.seat.now.me.0 c.args.line (path_data c.args.path.now) c.args.bound c.rest.result.0 c.set_word.result c.set_word.ensures c.rest.ensures c.requires.writes e.2.0,
    )
