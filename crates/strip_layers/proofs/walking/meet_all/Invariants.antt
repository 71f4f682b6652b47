use Rattle.std.proofs.Common.{◌≡◌, ◌<◌, ◌≤◌, ℕ, All, length, map, get_or}
use Rattle.strip_film.specs.Path.{IsComplete, PathData}
use Rattle.strip_film.specs.Rules.{Rules}
use Rattle.strip_film.specs.Shown.{path_data}
use Rattle.strip_layers.specs.Search.{IsSearch, Rises}
use Rattle.strip_layers.specs.Shown.{search_data}
use Rattle.strip_layers.proofs.walking.meet_all.Given as goal

-- the best path pays no more than those so far
abbrev pub invariant-loop-path : goal.invariant-loop-path
invariant-loop-path l = record {
  found : l.search.found.entries ≡ l.fn.search.found.entries;
  met : (rules : Rules) → IsSearch rules (search_data l.fn.search) → All (IsComplete rules.film) (map path_data l.path-items)
      → IsSearch rules (search_data l.search);
  rises : Rises (search_data l.fn.search) (search_data l.search);
  cheaper : (place : ℕ) (p : PathData) → place < l.path-index → place < length (map path_data l.path-items)
      → (search_data l.search).best.paid ≤ (get_or (map path_data l.path-items) place p).paid;
}
