use Rattle.std.proofs.Common.{◌≡◌, drop}
use Rattle.strip_film.specs.Shown.{path_data}
use Rattle.strip_start.specs.Moves.{taken_out}
use Rattle.strip_start.specs.Sides.{cast_along}
use Rattle.strip_start.proofs.Tried.{IsAt, IsBestFrom}
use Rattle.strip_start.proofs.scan.earlier_place.Given as goal

-- the scene stands at the place, what the order costs then, who works behind it, and the best place so far
abbrev pub invariant-loop-to : goal.invariant-loop-to
invariant-loop-to l = record {
  at : IsAt l.film (path_data l.path).scenes l.fn.from l.to l.cost;
  behind : l.behind.0 ≡ cast_along l.film (drop l.to (taken_out l.fn.from (path_data l.path).scenes));
  best : IsBestFrom l.film (path_data l.path).scenes l.fn.from l.to l.best;
}
