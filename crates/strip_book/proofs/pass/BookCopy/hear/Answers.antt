use Rattle.std.proofs.Common.{◌∙◌, ap, arith}
use Rattle.atomic_table.specs.Table.{Me}
use Rattle.strip_film.specs.declared.path.Path.{Path}
use Rattle.strip_book.specs.Pass.{table_of}
use Rattle.strip_book.specs.View.{ViewData}
use Rattle.strip_book.proofs.Joined.{hears}
use Rattle.strip_book.proofs.Passed.{compares_so, heard_copy}
use Rattle.strip_book.proofs.Told.{compares_at}
use Rattle.strip_book.proofs.pass.BookCopy.hear.Goals as goal

pub join_seat-requires : goal.join_seat-requires
join_seat-requires c = (
  c.requires.copy.words,
  c.requires.other.words,
  c.requires.other.no_slots,
  omega (arith, c.args.book.now.words),
  hears c.args.book.now.table.shared.key c.args.self.now.seat.id c.args.self.now.seat.me.0 c.args.other.seat.id c.args.other.seat.me.0 c.requires.copy.idle c.requires.other.no_weight,
)

pub load-requires : goal.load-requires
load-requires c =
    let me = c.join_seat.ensures.2 in (
      c.join_seat.ensures.0 ∙ c.requires.copy.words,
      omega (arith, c.args.book.now.words),
      compares_at c.args.book.now.table.shared.key c.args.book.now.table.shared.table_id.slots c.join_seat.new.seat.id c.join_seat.new.seat.me
          (ap (λ (m : Me Path ViewData). m.1) me ∙ c.requires.copy.no_slots) (ap (λ (m : Me Path ViewData). m.0.writing) me ∙ c.requires.copy.idle)
          (ap (λ (m : Me Path ViewData). m.0.search) me ∙ c.requires.copy.search),
    )

pub returns-clause-copy : goal.returns-clause-copy
returns-clause-copy c =
    let e = c.load.ensures in
    let me = c.join_seat.ensures.2 in
    heard_copy (table_of c.args.book.now) c.args.self.now _ c.args.other.seat.me.0 c.join_seat.new.seat.me.0 c.requires.copy (e.0 ∙ c.join_seat.ensures.0)
    (e.2.1 ∙ ap (λ (m : Me Path ViewData). m.1) me ∙ c.requires.copy.no_slots) (ap (λ (m : Me Path ViewData). m.0) me) e.2.0

pub returns-clause-grow : goal.returns-clause-grow
returns-clause-grow c =
    (compares_so c.args.self.now.seat.me.0 c.args.other.seat.me.0 c.join_seat.new.seat.me.0 c.load.new.seat.me.0 (ap (λ (m : Me Path ViewData). m.0) c.join_seat.ensures.2) c.load.ensures.2.0).0

pub returns-clause-heard : goal.returns-clause-heard
returns-clause-heard c =
    (compares_so c.args.self.now.seat.me.0 c.args.other.seat.me.0 c.join_seat.new.seat.me.0 c.load.new.seat.me.0 (ap (λ (m : Me Path ViewData). m.0) c.join_seat.ensures.2) c.load.ensures.2.0).1
