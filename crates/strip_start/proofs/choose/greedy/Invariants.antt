use Rattle.strip_mask.specs.Set.{size}
use Rattle.strip_film.specs.Running.{IsRunning}
use Rattle.strip_film.specs.Shown.{running_data}
use Rattle.strip_start.specs.Greedy.{IsGreedy}
use Rattle.strip_start.proofs.choose.greedy.Given as goal

-- each scene so far had the least step
abbrev pub invariant-loop-scene : goal.invariant-loop-scene
invariant-loop-scene l = record {
  running : IsRunning l.film (running_data l.state);
  greedy : IsGreedy l.film (running_data l.state).path.scenes;
}

abbrev pub decreases-loop-scene : goal.decreases-loop-scene
decreases-loop-scene l = size (running_data l.state).path.rest
