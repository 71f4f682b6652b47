use Rattle.std.proofs.Common.{◌≡◌, ℕ, ◌+◌, take}
use Rattle.strip_film.specs.Shown.{path_data}
use Rattle.strip_start.specs.Moves.{taken_out}
use Rattle.strip_start.specs.Scan.{NoPlace}
use Rattle.strip_start.specs.Sides.{cast_along}
use Rattle.strip_start.proofs.Tried.{IsAt}
use Rattle.strip_start.proofs.scan.later_place.Given as goal

-- the scene stands at the place before the next one, what the order costs then, who works before it, and no place so far is better
abbrev pub invariant-loop-to : goal.invariant-loop-to
invariant-loop-to l = record {
  at : (place : ℕ) → place + 1 ≡ l.to → IsAt l.film (path_data l.path).scenes l.fn.from place l.cost;
  before : (place : ℕ) → place + 1 ≡ l.to → l.before.0 ≡ cast_along l.film (take place (taken_out l.fn.from (path_data l.path).scenes));
  none : NoPlace l.film (path_data l.path).scenes l.fn.from 0 l.to;
}
