use Rattle.std.proofs.Common.{◌≡◌, ◌<◌, ℕ, length, map, get_or}
use Rattle.strip_model.specs.declared.kind.Kind.{Kind}
use Rattle.strip_model.specs.Film.{FilmData}
use Rattle.strip_film.specs.Path.{PathData}
use Rattle.strip_film.specs.Shown.{path_data}
use Rattle.strip_layers.specs.declared.ask.Ask.{Ask}
use Rattle.strip_layers.specs.Search.{AreTrue}
use Rattle.strip_layers.specs.Walked.{IsAskFor}
use Rattle.strip_layers.proofs.looking.asks_for.Given as goal

-- an ask for each path so far
abbrev pub invariant-loop-path : goal.invariant-loop-path
invariant-loop-path l = record {
  count : length l.asks.items ≡ l.path-index;
  each : (kind : Kind) (film : FilmData) → AreTrue kind film l.search.found.entries → (place : ℕ) (p : PathData) (d : Ask) → place < l.path-index
      → place < length l.paths
      → IsAskFor kind film l.search.sheet.lines.items l.limit (get_or (map path_data l.paths) place p) (get_or l.asks.items place d);
}
