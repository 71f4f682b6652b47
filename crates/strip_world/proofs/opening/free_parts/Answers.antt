use Rattle.std.proofs.Common.{rules, ◌∙◌, map, replicate, ap}
use Rattle.strip_world.specs.Shown.{part_data}
use Rattle.strip_world.specs.World.{PartData}
use Rattle.strip_world.proofs.Shown.{map-replicate}
use Rattle.strip_world.proofs.opening.free_parts.Goals as goal

pub returns : goal.returns
returns c =
    ap (map part_data) (c.in_ok-parts.ensures.items_if_clones_equal (search rules)) ∙ map-replicate part_data c.args.count c.free.result
    ∙ ap (λ (d : PartData). replicate c.args.count d) c.free.ensures
