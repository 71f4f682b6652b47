use Rattle.std.proofs.Common.{◌<◌, ◌≤◌, length, ap, ◌∙◌, arith}
use Rattle.std.proofs.lemmas.List.{take_all}
use Rattle.strip_film.specs.Path.{PathData}
use Rattle.strip_film.specs.Shown.{path_data}
use Rattle.strip_film.proofs.Started.{next_ready, more_so_far, same_path}
use Rattle.strip_film.proofs.running.Running.of.Goals as goal

pub take-requires-clause-ready : goal.take-requires-clause-ready
take-requires-clause-ready c =
    let within : c.loop-scene.scene-index < length (path_data c.args.path.now).scenes = omega (arith, c.loop-scene-test.true, ap length c.scenes-scene-items.ensures) in
    rw c.scenes-scene-items.ensures (next_ready c.args.film.now (path_data c.args.path.now) (path_data c.loop-scene.running.path) c.loop-scene.scene-index
    c.requires c.loop-scene.invariant.running.path c.loop-scene.invariant.so_far within)

pub loop-scene-preserved : goal.loop-scene-preserved
loop-scene-preserved c =
    let within : c.loop-scene.scene-index < length (path_data c.args.path.now).scenes = omega (arith, c.loop-scene-test.true, ap length c.scenes-scene-items.ensures) in
    record {
      running = c.take.ensures.running;
      so_far = ap (λ (path : PathData). path.scenes) c.take.ensures.path
          ∙ rw c.scenes-scene-items.ensures (more_so_far (path_data c.args.path.now).scenes (path_data c.loop-scene.running.path).scenes c.loop-scene.scene-index
          c.loop-scene.invariant.so_far within);
    }

pub returns-clause-path : goal.returns-clause-path
returns-clause-path c =
    let past : length (path_data c.args.path.now).scenes ≤ c.loop-scene.scene-index = omega (arith, ap length c.scenes-scene-items.ensures) in
    same_path c.args.film.now (path_data c.loop-scene.running.path) (path_data c.args.path.now) c.loop-scene.invariant.running.path c.requires
    (c.loop-scene.invariant.so_far ∙ take_all c.loop-scene.scene-index (path_data c.args.path.now).scenes past)
