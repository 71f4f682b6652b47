use Rattle.std.proofs.Common.{◌∙◌, ap, arith}
use Rattle.atomic_table.specs.Table.{Me}
use Rattle.strip_film.specs.declared.path.Path.{Path}
use Rattle.strip_book.specs.View.{ViewData}
use Rattle.strip_book.proofs.Joined.{hears}
use Rattle.strip_book.proofs.Passed.{heard_pass, hears_so}
use Rattle.strip_book.proofs.Told.{sees_at}
use Rattle.strip_book.proofs.pass.BookPass.hear.Goals as goal

pub join_seat-requires : goal.join_seat-requires
join_seat-requires c = (
  c.requires.pass.table,
  c.requires.copy.words,
  c.requires.copy.no_slots,
  omega (arith, c.args.book.now.words),
  hears c.args.book.now.table.shared.key c.args.self.now.seat.id c.args.self.now.seat.me.0 c.args.copy.seat.id c.args.copy.seat.me.0 c.requires.pass.idle c.requires.copy.no_weight,
)

pub load-requires : goal.load-requires
load-requires c =
    let me = c.join_seat.ensures.2 in (
      c.join_seat.ensures.0 ∙ c.requires.pass.table,
      omega (arith, c.args.book.now.words),
      sees_at c.args.book.now.table.shared.key c.args.book.now.table.shared.table_id.slots c.join_seat.new.seat.id c.join_seat.new.seat.me
          (ap (λ (m : Me Path ViewData). m.1) me ∙ c.requires.pass.no_slots)
          (ap (λ (m : Me Path ViewData). m.0.writing) me ∙ c.requires.pass.idle)
          (omega (arith, ap (λ (m : Me Path ViewData). m.0.weight) me, c.requires.pass.some_weight)),
    )

pub returns-clause-pass : goal.returns-clause-pass
returns-clause-pass c =
    let e = c.load.ensures in
    let me = c.join_seat.ensures.2 in
    heard_pass c.args.book.now c.args.self.now _ c.args.copy.seat.me.0 c.join_seat.new.seat.me.0 c.requires.pass (e.0 ∙ c.join_seat.ensures.0)
    (e.2.1 ∙ ap (λ (m : Me Path ViewData). m.1) me ∙ c.requires.pass.no_slots) (ap (λ (m : Me Path ViewData). m.0) me) e.2.0

pub returns-clause-heard : goal.returns-clause-heard
returns-clause-heard c =
    hears_so c.args.self.now.seat.me.0 c.args.copy.seat.me.0 c.join_seat.new.seat.me.0 c.load.new.seat.me.0 (ap (λ (m : Me Path ViewData). m.0) c.join_seat.ensures.2) c.load.ensures.2.0
