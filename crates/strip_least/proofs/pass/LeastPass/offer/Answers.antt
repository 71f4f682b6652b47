use Rattle.std.proofs.Common.{arith, sym}
use Rattle.strip_film.specs.Shown.{path_data}
use Rattle.strip_least.proofs.Offered.{offers_at}
use Rattle.strip_least.proofs.pass.LeastPass.offer.Goals as goal

pub fetch_min-found-requires : goal.fetch_min-found-requires
fetch_min-found-requires c = (
  c.requires.pass.table,
  omega (arith, c.args.least.now.two_words),
  offers_at c.args.least.now.table.shared.key c.args.least.now.table.shared.table_id.slots c.args.self.now.seat.id c.args.self.now.seat.me c.paid-paid.result
      c.requires.pass.some_weight c.requires.pass.no_slots (path_data c.args.path.now, c.requires.complete, sym c.paid-paid.ensures),
)
