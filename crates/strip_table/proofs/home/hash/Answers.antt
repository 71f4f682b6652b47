use Rattle.std.proofs.Common.{refl}
use Rattle.strip_table.specs.Home.{hash}
use Rattle.strip_table.proofs.home.hash.Goals as goal

pub returns : goal.returns
unfolding hash
returns c = refl
