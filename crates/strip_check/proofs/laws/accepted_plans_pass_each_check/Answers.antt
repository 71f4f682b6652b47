use Rattle.strip_reduce.specs.Reduction.{reduced}
use Rattle.strip_check.proofs.Accepting.{accepted_exactly}
use Rattle.strip_check.proofs.Undercut.{few_classes}
use Rattle.strip_check.proofs.laws.accepted_plans_pass_each_check.Goals as goal

pub returns : goal.returns
returns c = λ film plan limits few.
    (let fits = few_classes (reduced film).film (c.the_classes_stand_for_the_film.ensures.limits film limits).film few in
    accepted_exactly film plan fits (c.the_rules_are_true.ensures.begin plan.kind (reduced film).film fits))
