use Rattle.std.proofs.Common.{◌≡◌, take}
use Rattle.strip_film.specs.Path.{IsPath}
use Rattle.strip_film.specs.Shown.{path_data}
use Rattle.strip_start.specs.Moves.{moved}
use Rattle.strip_start.proofs.moves.moved.Given as goal

-- the moved order so far
abbrev pub invariant-loop-place : goal.invariant-loop-place
invariant-loop-place l = record {
  path : IsPath l.film (path_data l.next);
  so_far : (path_data l.next).scenes ≡ take l.place (moved (path_data l.path).scenes l.fn.found.from l.fn.found.to);
}
