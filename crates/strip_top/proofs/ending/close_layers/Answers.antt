use Rattle.std.proofs.Common.{subst, sym}
use Rattle.strip_layers.specs.declared.found.Found.{Found}
use Rattle.strip_layers.specs.Search.{AreTrue}
use Rattle.strip_top.proofs.ending.close_layers.Goals as goal

pub new-known-requires : goal.new-known-requires
new-known-requires g c =
    subst (λ (found : Found). AreTrue g.B.Bounds.kind g.B.Bounds.film found.values.entries) (sym c.in_ok-ended.ensures.found) c.requires.found
