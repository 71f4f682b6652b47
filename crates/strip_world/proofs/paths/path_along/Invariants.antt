use Rattle.std.proofs.Common.{◌≡◌, take}
use Rattle.strip_film.specs.Path.{IsPath}
use Rattle.strip_film.specs.Shown.{path_data}
use Rattle.strip_world.proofs.paths.path_along.Given as goal

-- the path along the scenes so far
abbrev pub invariant-loop-scene : goal.invariant-loop-scene
invariant-loop-scene l = record {
  path : IsPath l.film (path_data l.path);
  so_far : (path_data l.path).scenes ≡ take l.scene-index l.scenes;
}
