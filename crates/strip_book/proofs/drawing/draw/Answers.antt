use Rattle.std.proofs.Common.{◌≡◌, ℕ, ◌∙◌, ap, arith, subst, sym}
use Rattle.strip_film.specs.Shown.{path_data}
use Rattle.strip_book.specs.View.{ViewData}
use Rattle.strip_book.specs.Pass.{IsNext}
use Rattle.strip_book.specs.Steps.{HasDrawn, about}
use Rattle.strip_book.proofs.Drawn.{draws_at}
use Rattle.strip_book.proofs.Told.{announces_at}
use Rattle.strip_book.proofs.drawing.draw.Goals as goal

pub compare_exchange_with-requires : goal.compare_exchange_with-requires
compare_exchange_with-requires c = (
  c.requires.seat.table,
  omega (arith, c.args.book.now.words, c.desk_word-desk.ensures, c.requires.desk),
  announces_at c.args.book.now.table.shared.key c.args.book.now.table.shared.table_id.slots c.args.seat.now.id c.args.seat.now.me c.requires.seat.no_slots c.requires.idle
      c.desk_word-desk.result c.args.desk c.from-part.result c.args.path.now c.desk_word-desk.ensures,
)

pub fetch_add-requires : goal.fetch_add-requires
fetch_add-requires c =
    let e = c.compare_exchange_with.ensures in
    let view : c.compare_exchange_with.new.seat.me.0 ≡ about c.args.seat.now.me.0 c.from-part.result (path_data c.args.path.now) = e.2.0 in (
      e.0 ∙ c.requires.seat.table,
      omega (arith, c.args.book.now.words),
      draws_at c.args.book.now.table.shared.key c.args.book.now.table.shared.table_id.slots c.compare_exchange_with.new.seat.id c.compare_exchange_with.new.seat.me
          (e.2.1 ∙ c.requires.seat.no_slots) (ap (λ (u : ViewData). u.writing) view ∙ c.requires.idle)
          (omega (arith, c.requires.seat.some_weight, ap (λ (u : ViewData). u.weight) view)) (ap (λ (u : ViewData). u.spent) view ∙ c.requires.unspent)
          (subst (λ (u : ViewData). IsNext u.search u.entries u.about.part u.about.path) (sym view)
          (subst (λ (part : ℕ). IsNext c.args.seat.now.me.0.search c.args.seat.now.me.0.entries part (path_data c.args.path.now)) (sym c.from-part.ensures) c.requires.next)),
    )

pub returns-clause-drawn : goal.returns-clause-drawn
returns-clause-drawn c =
    let view : c.compare_exchange_with.new.seat.me.0 ≡ about c.args.seat.now.me.0 c.args.part (path_data c.args.path.now)
    = c.compare_exchange_with.ensures.2.0 ∙ ap (λ (part : ℕ). about c.args.seat.now.me.0 part (path_data c.args.path.now)) c.from-part.ensures in
    subst (λ (u : ViewData). HasDrawn u c.fetch_add.result c.fetch_add.new.seat.me.0) view c.fetch_add.ensures.2.0
