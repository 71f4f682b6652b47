use Rattle.std.proofs.Common.{subst}
use Rattle.strip_stripes.specs.Shelf.{AreTrue}
use Rattle.strip_stripes.proofs.shelf.Shelf.keeps_true_bounds.Goals as goal

pub returns : goal.returns
returns g c =
    subst (AreTrue g.N.Named.table) c.self.view_is
    (c.the_entries_of_a_shelf_are_true.ensures g.N.Named.table c.self.inside.copy c.self.inside.stripe c.self.invariant)
