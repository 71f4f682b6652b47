use Rattle.std.proofs.Common.{◌≡◌, ◌++◌}
use Rattle.strip_mask.specs.Iter.{rest_of}
use Rattle.strip_mask.specs.Set.{members, size}
use Rattle.strip_film.specs.Shoot.{ready}
use Rattle.strip_film.specs.Shown.{path_data}
use Rattle.test_search.proofs.Search.{IsBestAmong}
use Rattle.test_search.proofs.cheapest.+cheapest_from.Given as goal

abbrev pub decreases-cheapest_from : goal.decreases-cheapest_from
decreases-cheapest_from l = size l.path.now.rest.0

-- what is known of the ready scenes so far; these and those to come are the ready ones
abbrev pub invariant-loop-scene : goal.invariant-loop-scene
invariant-loop-scene l = record {
  best : IsBestAmong l.film (path_data l.path).scenes l.yielded l.best;
  turns : l.yielded ++ rest_of l.scene-iterator ≡ members (ready l.film l.path.rest.0);
}
