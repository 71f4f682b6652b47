use Rattle.std.proofs.Common.{◌∙◌, ap, arith}
use Rattle.atomic_table.specs.Table.{Me}
use Rattle.strip_film.specs.declared.path.Path.{Path}
use Rattle.strip_book.specs.View.{ViewData}
use Rattle.strip_book.proofs.Joined.{joins}
use Rattle.strip_book.proofs.Passed.{joined_pass, joins_so}
use Rattle.strip_book.proofs.Told.{sees_at}
use Rattle.strip_book.proofs.pass.BookPass.join.Goals as goal

pub join_seat-requires : goal.join_seat-requires
join_seat-requires c = (
  c.requires.pass.table,
  c.requires.other.table,
  c.requires.other.no_slots,
  omega (arith, c.args.book.now.words),
  joins c.args.book.now.table.shared.key c.args.self.now.seat.id c.args.self.now.seat.me.0 c.args.other.seat.id c.args.other.seat.me.0
      c.requires.pass.some_weight c.requires.pass.idle c.requires.other.idle,
)

pub load-requires : goal.load-requires
load-requires c =
    let me = c.join_seat.ensures.2 in (
      c.join_seat.ensures.0 ∙ c.requires.pass.table,
      omega (arith, c.args.book.now.words),
      sees_at c.args.book.now.table.shared.key c.args.book.now.table.shared.table_id.slots c.join_seat.new.seat.id c.join_seat.new.seat.me
          (ap (λ (m : Me Path ViewData). m.1) me ∙ c.requires.pass.no_slots)
          (ap (λ (m : Me Path ViewData). m.0.writing) me ∙ c.requires.pass.idle)
          (omega (arith, ap (λ (m : Me Path ViewData). m.0.weight) me, c.requires.pass.some_weight)),
    )

pub returns-clause-pass : goal.returns-clause-pass
returns-clause-pass c =
    let e = c.load.ensures in
    let me = c.join_seat.ensures.2 in
    joined_pass c.args.book.now c.args.self.now c.args.other _ c.join_seat.new.seat.me.0 c.requires.pass c.requires.other (e.0 ∙ c.join_seat.ensures.0)
    (e.2.1 ∙ ap (λ (m : Me Path ViewData). m.1) me ∙ c.requires.pass.no_slots) (ap (λ (m : Me Path ViewData). m.0) me) e.2.0

pub returns-clause-joined : goal.returns-clause-joined
returns-clause-joined c =
    joins_so c.args.self.now.seat.me.0 c.args.other.seat.me.0 c.join_seat.new.seat.me.0 c.load.new.seat.me.0 (ap (λ (m : Me Path ViewData). m.0) c.join_seat.ensures.2) c.load.ensures.2.0
