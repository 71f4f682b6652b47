use Rattle.std.proofs.Common.{◌≢◌, take}
use Rattle.std.specs.List.{AllPairs}
use Rattle.strip_model.proofs.names.have_own_names.Given as goal

abbrev pub invariant-loop-place : goal.invariant-loop-place
invariant-loop-place g l = AllPairs (λ a b. g.N.HasName.name a ≢ g.N.HasName.name b) (take l.place l.items)
