use Rattle.std.specs.Prelude.{◌≡◌, ℕ, ◌<◌, length, slice_index_or}
use Rattle.strip_film.specs.Shown.{path_data}
use Rattle.strip_film.specs.declared.path.Path.{Path}
use Rattle.strip_start.specs.Runs.{IsRunFrom}
use Rattle.strip_start.proofs.varying.make_runs.Given as goal

abbrev pub invariant-loop-run : goal.invariant-loop-run
invariant-loop-run l =
    (length l.paths ≡ length l.fn.paths)
    × ((k : ℕ) (d : Path) → k < l.run → IsRunFrom l.film (path_data l.start) l.tries (path_data (slice_index_or l.paths k d)))
