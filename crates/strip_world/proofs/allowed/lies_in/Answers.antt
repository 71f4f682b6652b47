use Rattle.std.proofs.Common.{nat_eq, sym, ◌∙◌, arith}
use Rattle.std.specs.List.{starts_with}
use Rattle.strip_film.specs.Shown.{path_data}
use Rattle.strip_world.proofs.Walked.{lies_in_task}
use Rattle.strip_world.proofs.allowed.lies_in.Goals as goal

pub returns : goal.returns
returns c =
    c.starts_with.ensures.value ∙ (λ i. starts_with nat_eq (c.scenes-2.ensures i) (c.scenes-3.ensures i))
    ∙ sym (lies_in_task c.args.depth c.args.tasks.now c.args.part (path_data c.args.path.now) c.index-tasks-part.result
    (omega arith) (omega arith) c.index-tasks-part.is)
