use Rattle.std.proofs.Common.{◌∙◌, ℕ, List, ap, fold, map}
use Rattle.strip_mask.specs.Iter.{rest_of}
use Rattle.strip_mask.proofs.Turns.{turn_member, turns_all}
use Rattle.strip_film.specs.Path.{PathData, extended}
use Rattle.strip_film.specs.Shown.{path_data}
use Rattle.strip_film.proofs.Paths.{rest_lies}
use Rattle.strip_rule.specs.Rule.{open_firsts}
use Rattle.strip_paths.specs.Paths.{with_path}
use Rattle.strip_paths.specs.Shown.{paths_of}
use Rattle.strip_paths.proofs.Open.{first_ready}
use Rattle.strip_paths.proofs.longer.put_paths_after.Goals as goal

pub on-on-requires : goal.on-on-requires
on-on-requires c = rw c.rest-rest.ensures (rest_lies c.args.film.now (path_data c.args.path.now) c.requires.path)

pub open_firsts_with-requires-clause-lies : goal.open_firsts_with-requires-clause-lies
open_firsts_with-requires-clause-lies c = rw c.rest-rest.ensures (rest_lies c.args.film.now (path_data c.args.path.now) c.requires.path)

pub put_longer-requires-clause-ready : goal.put_longer-requires-clause-ready
put_longer-requires-clause-ready c =
    first_ready c.args.film.now (path_data c.args.path.now).rest c.in-Some.scene
    (turn_member (open_firsts c.args.film.now (path_data c.args.path.now).rest) c.in-Some.scene c.loop-scene.yielded (rest_of c.loop-scene.scene-iterator) (rest_of c.next.new.self) c.loop-scene.invariant.turns c.in-Some.ensures.steps)

pub returns : goal.returns
returns c =
    let film = c.args.film.now in
    let path : PathData = path_data c.args.path.now in
    c.loop-scene.invariant.so_far
    ∙ ap (λ (scenes : List ℕ). fold with_path (paths_of c.args.paths.now) (map (extended film path) scenes))
    (turns_all (open_firsts film path.rest) c.loop-scene.yielded (rest_of c.loop-scene.scene-iterator) c.loop-scene.invariant.turns c.in-None.ensures.steps.0)
