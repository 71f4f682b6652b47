use Rattle.std.proofs.Common.{ℕ, ◌<◌}
use Rattle.strip_film.specs.Shown.{path_data}
use Rattle.strip_start.specs.Moves.{IsBetter}
use Rattle.strip_start.proofs.moves.first_move.Given as goal

-- no move of a scene so far is better
abbrev pub invariant-loop-from : goal.invariant-loop-from
invariant-loop-from l = record {
  none : (from to : ℕ) → from < l.from → ¬ IsBetter l.film (path_data l.path).scenes from to;
}
