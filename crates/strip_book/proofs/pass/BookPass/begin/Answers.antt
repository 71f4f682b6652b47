use Rattle.std.proofs.Common.{◌∙◌, ℕ, suc, ◌<◌, ap, arith, length, subst, sym}
use Rattle.strip_book.specs.Steps.{with_part}
use Rattle.strip_book.proofs.Passed.{begins_so, begun_pass}
use Rattle.strip_book.proofs.Told.{begins_at}
use Rattle.strip_book.proofs.pass.BookPass.begin.Goals as goal

pub compare_exchange-requires : goal.compare_exchange-requires
compare_exchange-requires c = (
  c.requires.pass.table,
  omega (arith, c.args.book.now.words, c.desk_word-desk.ensures, c.args.self.now.desks),
  begins_at c.args.book.now.table.shared.key c.args.book.now.table.shared.table_id.slots c.args.self.now.seat.id c.args.self.now.seat.me c.requires.pass.no_slots
      c.requires.pass.idle c.desk_word-desk.result c.args.self.now.desk c.from-part.result c.desk_word-desk.ensures c.requires.pass.some_weight
      (subst (λ (part : ℕ). part < suc (length c.args.self.now.seat.me.0.search.tasks)) (sym c.from-part.ensures) c.requires.may.known_part),
)

pub returns-clause-pass : goal.returns-clause-pass
returns-clause-pass c =
    let e = c.compare_exchange.ensures in
    begun_pass c.args.book.now c.args.self.now _ c.args.part c.requires.pass e.0 e.2.1 c.requires.may
    (e.2.0 ∙ ap (with_part c.args.self.now.seat.me.0) c.from-part.ensures)

pub returns-clause-begun : goal.returns-clause-begun
returns-clause-begun c =
    begins_so c.args.self.now.seat.me.0 c.compare_exchange.new.seat.me.0 c.args.part c.requires.may
    (c.compare_exchange.ensures.2.0 ∙ ap (with_part c.args.self.now.seat.me.0) c.from-part.ensures)
