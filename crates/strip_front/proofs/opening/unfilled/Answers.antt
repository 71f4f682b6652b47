use Rattle.std.proofs.Common.{◌≡◌, ◌∙◌, ℕ, false, None, List, length, replicate, rules, sym, ap}
use Rattle.std.proofs.lemmas.List.{length-map}
use Rattle.strip_film.specs.declared.path.Path.{Path}
use Rattle.strip_film.specs.Shown.{path_data}
use Rattle.strip_paths.specs.declared.by_set.PathsBySet.{PathsBySet}
use Rattle.strip_paths.specs.Shown.{paths_of}
use Rattle.strip_front.proofs.opening.unfilled.Goals as goal

-- as many of one thing as there are paths
filled : {X : Type 0} (x : X) (by_set : PathsBySet) (listed : List Path) (xs : List X) → listed ≡ by_set.paths.items → xs ≡ replicate (length listed) x
    → xs ≡ replicate (length (paths_of by_set)) x
filled x by_set listed xs same are =
    let count : length listed ≡ length (paths_of by_set) = ap (λ (ps : List Path). length ps) same ∙ sym (length-map by_set.paths.items path_data) in
    are ∙ ap (λ (n : ℕ). replicate n x) count

pub returns : goal.returns
returns c =
    let wanted = filled false c.args.tasks c.paths.result.now c.in_ok-vec.field-0.items c.paths.ensures (c.in_ok-vec.ensures.items_if_clones_equal (search rules)) in
    let lines = filled None c.args.paths c.paths-2.result.now c.in_ok-vec-2.field-0.items c.paths-2.ensures (c.in_ok-vec-2.ensures.items_if_clones_equal (search rules)) in
    λ i. record { depth = c.args.depth; tasks = paths_of c.args.tasks; wanted = wanted i; paths = paths_of c.args.paths; lines = lines i }
