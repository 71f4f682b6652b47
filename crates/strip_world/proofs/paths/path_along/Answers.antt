use Rattle.std.proofs.Common.{◌≡◌, ℕ, sym, ap, ◌∙◌, take, get_or}
use Rattle.strip_mask.specs.Set.{has}
use Rattle.strip_film.specs.Film.{all_scenes}
use Rattle.strip_film.specs.Finish.{rest_after}
use Rattle.strip_film.specs.Shoot.{ready}
use Rattle.strip_film.specs.Shown.{path_data}
use Rattle.strip_film.proofs.Paths.{rest_lies}
use Rattle.strip_world.proofs.Walked.{not_first}
use Rattle.strip_world.proofs.paths.path_along.Goals as goal

pub ready-requires : goal.ready-requires
ready-requires c = rw c.rest.ensures (rest_lies c.args.film.now (path_data c.loop-scene.path) c.loop-scene.invariant.path)

pub returns-then-not-is_in-clause-none : goal.returns-then-not-is_in-clause-none
returns-then-not-is_in-clause-none c =
    let i = c.loop-scene.scene-index in
    let scenes = c.args.scenes.now in
    let rest : c.rest.result.0 ≡ rest_after (all_scenes c.args.film.now) (take i scenes)
    = c.rest.ensures ∙ c.loop-scene.invariant.path.left ∙ ap (rest_after (all_scenes c.args.film.now)) c.loop-scene.invariant.so_far in
    let set : c.ready.result.0 ≡ ready c.args.film.now (rest_after (all_scenes c.args.film.now) (take i scenes))
    = c.ready.ensures ∙ ap (ready c.args.film.now) rest in
    not_first (ready c.args.film.now) (all_scenes c.args.film.now) scenes i c.loop-scene-test.true
    (ap (λ (q : ℕ). has q (get_or scenes i 0)) (sym set) ∙ sym c.is_in.ensures.member ∙ c.if-not-is_in.true)
