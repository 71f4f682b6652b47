use Rattle.strip_mask.specs.Set.{size}
use Rattle.strip_film.specs.Path.{IsPath}
use Rattle.strip_film.specs.Shown.{path_data}
use Rattle.strip_start.proofs.listed.listed.Given as goal

abbrev pub invariant-loop-scene : goal.invariant-loop-scene
invariant-loop-scene l = record { path : IsPath l.film (path_data l.path) }

abbrev pub decreases-loop-scene : goal.decreases-loop-scene
decreases-loop-scene l = size (path_data l.path).rest
