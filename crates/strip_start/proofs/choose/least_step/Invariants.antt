use Rattle.std.proofs.Common.{◌≡◌, ◌++◌}
use Rattle.strip_mask.specs.Iter.{rest_of}
use Rattle.strip_mask.specs.Set.{members}
use Rattle.strip_film.specs.Shoot.{ready}
use Rattle.strip_film.specs.Shown.{running_data}
use Rattle.strip_start.proofs.Chosen.{IsLeastAmong}
use Rattle.strip_start.proofs.choose.least_step.Given as goal

-- the one with the least step of those so far; these and those to come are the ready scenes
abbrev pub invariant-loop-scene : goal.invariant-loop-scene
invariant-loop-scene l = record {
  best : IsLeastAmong l.film (running_data l.state).path.rest l.yielded l.best;
  turns : l.yielded ++ rest_of l.scene-iterator ≡ members (ready l.film (running_data l.state).path.rest);
}
