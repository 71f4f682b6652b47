use Rattle.std.proofs.Common.{rules, ◌∙◌, sym, length, ap}
use Rattle.std.proofs.lemmas.List.{length-map}
use Rattle.strip_film.specs.Shown.{path_data}
use Rattle.strip_front.specs.Shown.{front_data}
use Rattle.strip_worker.proofs.Begun.{nothing, zeros}
use Rattle.strip_worker.proofs.walked.Walked.new.Goals as goal

pub returns-clause-worked : goal.returns-clause-worked
returns-clause-worked c = λ hand fresh found was is.
    nothing hand fresh (front_data c.args.front.now) found c.in_ok-found.found.items was is
    (zeros c.in_ok-found.found.items (length c.tasks.result.now) (length (front_data c.args.front.now).tasks)
    (c.in_ok-found.ensures.items_if_clones_equal (search rules)) (sym (length-map c.tasks.result.now path_data) ∙ ap length c.tasks.ensures))
