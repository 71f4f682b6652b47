use Rattle.std.proofs.Common.{◌≡◌, ◌+◌, ◌≤◌, ℕ, map}
use Rattle.strip_film.specs.Shown.{path_data}
use Rattle.strip_lines.specs.Lines.{rules_of}
use Rattle.strip_paths.specs.Shown.{paths_of}
use Rattle.strip_front.specs.Front.{AreShorter}
use Rattle.strip_front.specs.Layers.{layer}
use Rattle.strip_front.proofs.shorter.shorter_paths.Given as goal

-- the paths of fewer scenes so far, and the last of their layers
abbrev pub invariant-loop-count : goal.invariant-loop-count
invariant-loop-count g l = record {
  some : 1 ≤ l.count;
  shorter : AreShorter (rules_of g.B.Bounds.kind g.B.Bounds.film) l.count (map path_data l.shorter.items);
  last : (before : ℕ) → l.count ≡ before + 1 → paths_of l.last ≡ layer g.B.Bounds.film before;
}
