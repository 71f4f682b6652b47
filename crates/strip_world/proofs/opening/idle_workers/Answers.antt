use Rattle.std.proofs.Common.{rules, ◌∙◌, map, replicate, ap}
use Rattle.strip_world.specs.Shown.{worker_data}
use Rattle.strip_world.specs.World.{WorkerData}
use Rattle.strip_world.proofs.Shown.{map-replicate}
use Rattle.strip_world.proofs.opening.idle_workers.Goals as goal

pub returns : goal.returns
returns c =
    ap (map worker_data) (c.in_ok-workers.ensures.items_if_clones_equal (search rules)) ∙ map-replicate worker_data c.args.count c.of.result
    ∙ ap (λ (d : WorkerData). replicate c.args.count d) c.of.ensures
