use Rattle.std.proofs.Common.{◌≡◌, take, drop}
use Rattle.strip_film.specs.Finish.{EachOnce}
use Rattle.strip_film.specs.Path.{IsPath}
use Rattle.strip_film.specs.Shown.{path_data}
use Rattle.strip_start.proofs.listed.path_of.Given as goal

-- the first scenes of the order were shot, and the others are left, each once
abbrev pub invariant-loop-scene : goal.invariant-loop-scene
invariant-loop-scene l = record {
  path : IsPath l.film (path_data l.path);
  scenes : (path_data l.path).scenes ≡ take l.scene-index l.order;
  rest : EachOnce l.film (path_data l.path).rest (drop l.scene-index l.order);
}
