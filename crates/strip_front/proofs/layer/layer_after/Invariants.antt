use Rattle.std.proofs.Common.{◌≡◌, [], fold, take}
use Rattle.strip_paths.specs.Paths.{paths_after, with_path}
use Rattle.strip_paths.specs.Shown.{paths_of}
use Rattle.strip_front.proofs.layer.layer_after.Given as goal

-- the paths that go on from those so far
abbrev pub invariant-loop-path : goal.invariant-loop-path
invariant-loop-path l = paths_of l.after ≡ fold (λ paths path. fold with_path paths (paths_after l.film path)) [] (take l.path-index (paths_of l.before))
