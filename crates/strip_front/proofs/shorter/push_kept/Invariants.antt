use Rattle.std.proofs.Common.{◌≡◌, ◌++◌, List, map}
use Rattle.strip_mask.specs.Set.{size}
use Rattle.strip_film.specs.Path.{PathData}
use Rattle.strip_film.specs.Shown.{path_data, turns_data}
use Rattle.strip_lines.specs.Lines.{rules_of}
use Rattle.strip_paths.specs.Shown.{paths_of}
use Rattle.strip_front.proofs.Onward.{AreFound, AreWaiting}
use Rattle.strip_front.proofs.shorter.push_kept.Given as goal

-- what was pushed goes on with the scenes that have had their turn; the others wait by their ranks
abbrev pub invariant-loop-scene : goal.invariant-loop-scene
invariant-loop-scene g l = record {
  wait : AreWaiting (rules_of g.B.Bounds.kind g.B.Bounds.film) (paths_of l.layer) (path_data l.path) (turns_data l.turns);
  found : (found : List PathData) × (map path_data l.paths.items ≡ map path_data l.fn.paths.items ++ found)
      × AreFound (rules_of g.B.Bounds.kind g.B.Bounds.film) (paths_of l.layer) (path_data l.path) (turns_data l.turns).left found;
}

abbrev pub decreases-loop-scene : goal.decreases-loop-scene
decreases-loop-scene g l = size (turns_data l.turns).left
