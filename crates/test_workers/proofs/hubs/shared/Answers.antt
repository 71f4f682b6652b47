use Rattle.std.proofs.Common.{ap}
use Rattle.strip_least.specs.declared.view.View.{View as LeastView}
use Rattle.strip_book.specs.View.{ViewData}
use Rattle.test_workers.proofs.hubs.shared.Goals as goal

pub share-requires-clause-weight : goal.share-requires-clause-weight
share-requires-clause-weight g c = (
  4294967294,
  record {
    told = ap (λ (v : LeastView). v.weight) c.in_ok-least.ensures.knows;
    lines = ap (λ (v : ViewData). v.weight) c.in_ok-book.ensures.knows;
    source = tt;
  },
)
