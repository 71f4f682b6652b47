use Rattle.std.proofs.Common.{◌≡◌, take}
use Rattle.strip_film.specs.Shown.{path_data, running_data}
use Rattle.strip_film.specs.Running.{IsRunning}
use Rattle.strip_film.proofs.running.Running.of.Given as goal

-- the state after the scenes so far
abbrev pub invariant-loop-scene : goal.invariant-loop-scene
invariant-loop-scene l = record {
  running : IsRunning l.film (running_data l.running);
  so_far : (running_data l.running).path.scenes ≡ take l.scene-index (path_data l.fn.path).scenes;
}
