use Rattle.std.proofs.Common.{◌≡◌, ◌≤◌, ℕ, suc}
use Rattle.strip_lines.specs.Lines.{rules_of}
use Rattle.strip_paths.specs.Shown.{paths_of}
use Rattle.strip_layers.specs.Shown.{search_data}
use Rattle.strip_layers.specs.Walked.{AreLooked, IsLevel}
use Rattle.strip_layers.proofs.Going.{AreGone}
use Rattle.strip_layers.proofs.looking.go_on.Given as goal

-- those so far stand, and lead on to the next layer
abbrev pub invariant-loop-number : goal.invariant-loop-number
invariant-loop-number g l = record {
  found : l.search.found.entries ≡ l.fn.search.found.entries;
  gone : (left limit : ℕ) → limit ≤ (search_data l.fn.search).goal
      → IsLevel (rules_of g.A.Answers.kind g.A.Answers.film) (suc left) (paths_of l.paths)
      → AreLooked g.A.Answers.kind g.A.Answers.film (search_data l.fn.search).lines limit (paths_of l.paths) l.asks
      → AreGone (rules_of g.A.Answers.kind g.A.Answers.film) (search_data l.fn.search) (search_data l.search) left limit l.number
      (paths_of l.paths) l.standings.items (paths_of l.next);
}
