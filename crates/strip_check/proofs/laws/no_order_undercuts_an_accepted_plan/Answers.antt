use Rattle.std.proofs.Common.{length}
use Rattle.strip_mask.proofs.Below.{IsSet-full, LiesBelow-full}
use Rattle.strip_model.specs.Film.{FilmData}
use Rattle.strip_film.specs.Film.{IsFilm, all_scenes}
use Rattle.strip_lines.specs.Lines.{known}
use Rattle.strip_reduce.specs.Reduction.{reduced}
use Rattle.strip_check.specs.Accepted.{class_rules}
use Rattle.strip_check.proofs.Undercut.{below_finish, few_classes, true_plan}
use Rattle.strip_check.proofs.laws.no_order_undercuts_an_accepted_plan.Goals as goal

pub returns : goal.returns
returns c = λ film plan limits few is.
    (let classes : FilmData = (reduced film).film in
    let all = all_scenes classes in
    let fits : IsFilm classes = few_classes classes (c.the_classes_stand_for_the_film.ensures.limits film limits).film few in
    let finish = c.a_least_tail_exists.ensures classes all fits (IsSet-full (length classes.casts) few) in
    true_plan film plan (c.the_classes_stand_for_the_film.ensures.stands film limits) is finish.0
    ((c.finishing_everything_is_the_optimum.ensures classes finish.0 fits).0 finish.1)
    (below_finish classes all finish.0 (known (class_rules plan.kind film) plan.lines all) finish.1
    (c.a_justified_list_is_true.ensures.known (class_rules plan.kind film) plan.lines all fits (c.the_rules_are_true.ensures.bounds plan.kind classes fits)
    (c.the_rules_are_true.ensures.begin plan.kind classes fits) is.justified (LiesBelow-full (length classes.casts)))))
