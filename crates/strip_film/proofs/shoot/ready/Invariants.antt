use Rattle.std.proofs.Common.{◌≡◌, ◌++◌}
use Rattle.strip_mask.specs.Set.{members}
use Rattle.strip_mask.specs.Iter.{rest_of}
use Rattle.strip_film.specs.Shoot.{ready}
use Rattle.strip_film.proofs.Chosen.{IsChosen}
use Rattle.strip_film.proofs.shoot.ready.Given as goal

-- the ready scenes among those so far; these and those to come are the set
abbrev pub invariant-loop-scene : goal.invariant-loop-scene
invariant-loop-scene l = record {
  so_far : IsChosen (ready l.film l.fn.q.0) l.yielded l.ready.0;
  turns : l.yielded ++ rest_of l.scene-iterator ≡ members l.fn.q.0;
}
