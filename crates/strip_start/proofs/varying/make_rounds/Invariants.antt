use Rattle.std.specs.Prelude.{◌≡◌, ◌≤◌}
use Rattle.strip_film.specs.Path.{IsComplete}
use Rattle.strip_film.specs.Shown.{path_data}
use Rattle.strip_start.proofs.varying.make_rounds.Given as goal

abbrev pub decreases-loop-left : goal.decreases-loop-left
decreases-loop-left l = l.left

abbrev pub invariant-loop-left : goal.invariant-loop-left
invariant-loop-left l =
    IsComplete l.film (path_data l.best) × (l.left ≤ l.tries) × (l.tries ≡ 0 → path_data l.best ≡ path_data l.start)
