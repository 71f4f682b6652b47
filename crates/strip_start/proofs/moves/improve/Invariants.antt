use Rattle.strip_film.specs.Path.{IsComplete}
use Rattle.strip_film.specs.Shown.{path_data}
use Rattle.strip_start.specs.Moves.{Improves}
use Rattle.strip_start.proofs.moves.improve.Given as goal

-- so many first moves lead to the best so far
abbrev pub invariant-loop-turn : goal.invariant-loop-turn
invariant-loop-turn l = record {
  complete : IsComplete l.film (path_data l.best);
  chain : Improves l.film l._turn (path_data l.fn.path).scenes (path_data l.best).scenes;
}
