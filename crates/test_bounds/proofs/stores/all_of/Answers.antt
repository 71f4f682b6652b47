use Rattle.std.proofs.Common.{length}
use Rattle.strip_mask.proofs.Below.{LiesBelow-full}
use Rattle.test_bounds.proofs.stores.all_of.Goals as goal

pub returns : goal.returns
returns c = rw c.all.ensures (LiesBelow-full (length c.args.film.now.casts))
