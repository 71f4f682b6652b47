use Rattle.std.proofs.Common.{map, take}
use Rattle.strip_film.specs.Shown.{path_data}
use Rattle.strip_lines.specs.Lines.{rules_of}
use Rattle.strip_paths.specs.Shown.{paths_of}
use Rattle.strip_front.proofs.Onward.{AreFollowed}
use Rattle.strip_front.proofs.shorter.with_layer.Given as goal

-- the paths so far, each with those of the next layer behind it
abbrev pub invariant-loop-path : goal.invariant-loop-path
invariant-loop-path g l = record {
  followed : AreFollowed (rules_of g.B.Bounds.kind g.B.Bounds.film) (paths_of l.next) l.count (take l.path-index (map path_data l.shorter)) (map path_data l.paths.items);
}
