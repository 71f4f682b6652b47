use Rattle.std.proofs.Common.{◌≡◌, ℕ, ◌<◌, [], false}
use Rattle.strip_film.specs.Film.{film_data}
use Rattle.strip_reduce.specs.Steps.{can_drop}
use Rattle.strip_reduce.proofs.search.droppable.Given as goal

abbrev pub invariant-loop-actor : goal.invariant-loop-actor
invariant-loop-actor l = (j : ℕ) → j < l.actor → can_drop (film_data l.casts [] [] l.holds []) j ≡ false
