use Rattle.std.proofs.Common.{◌≡◌, ◌++◌, fold, map}
use Rattle.strip_mask.specs.Set.{members}
use Rattle.strip_mask.specs.Iter.{rest_of}
use Rattle.strip_film.specs.Path.{extended}
use Rattle.strip_film.specs.Shown.{path_data}
use Rattle.strip_rule.specs.Rule.{open_firsts}
use Rattle.strip_paths.specs.Paths.{with_path}
use Rattle.strip_paths.specs.Shown.{paths_of}
use Rattle.strip_paths.proofs.longer.put_paths_after.Given as goal

-- the paths with those so far; these scenes and those to come are the open firsts
abbrev pub invariant-loop-scene : goal.invariant-loop-scene
invariant-loop-scene l = record {
  so_far : paths_of l.paths ≡ fold with_path (paths_of l.fn.paths) (map (extended l.film (path_data l.path)) l.yielded);
  turns : l.yielded ++ rest_of l.scene-iterator ≡ members (open_firsts l.film (path_data l.path).rest);
}
