use Rattle.std.proofs.Common.{◌≡◌, map, take}
use Rattle.strip_film.specs.Shown.{path_data}
use Rattle.strip_paths.proofs.Rests.{rests}
use Rattle.strip_paths.proofs.by_set.PathsBySet.of.Given as goal

-- the sets of the paths so far
abbrev pub invariant-loop-path : goal.invariant-loop-path
invariant-loop-path l = l.sets.keys ≡ take l.path-index (rests (map path_data l.path-items))
