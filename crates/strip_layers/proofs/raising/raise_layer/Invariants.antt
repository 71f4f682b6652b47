use Rattle.std.proofs.Common.{◌≡◌, ℕ, List, length}
use Rattle.strip_film.specs.Path.{PathData}
use Rattle.strip_lines.specs.Lines.{rules_of}
use Rattle.strip_layers.specs.Raised.{MayRaiseLayer}
use Rattle.strip_layers.specs.Shown.{search_data}
use Rattle.strip_layers.proofs.Rising.{AreRaised}
use Rattle.strip_layers.proofs.raising.raise_layer.Given as goal

-- those so far are raised
abbrev pub invariant-loop-number : goal.invariant-loop-number
invariant-loop-number g l = record {
  found : l.search.found.entries ≡ l.fn.search.found.entries;
  count : length l.standings.items ≡ length l.fn.layer.standings.items;
  raised : (limit : ℕ) (paths : List PathData)
      → MayRaiseLayer (rules_of g.A.Answers.kind g.A.Answers.film) (search_data l.fn.search) limit paths l.fn.layer.sets.keys
      l.fn.layer.standings.items l.below.sets.keys l.below.standings.items
      → AreRaised (rules_of g.A.Answers.kind g.A.Answers.film) (search_data l.fn.search) (search_data l.search) limit l.number paths
      l.fn.layer.standings.items l.standings.items;
}
