use Rattle.std.proofs.Common.{◌≡◌, None, ◌∙◌, ℕ, sym, ap, subst, arith}
use Rattle.std.proofs.lemmas.List.{get_or_default, length-map}
use Rattle.std.specs.Option.{is_some}
use Rattle.strip_film.specs.Film.{LiesIn}
use Rattle.strip_film.specs.Path.{PathData}
use Rattle.strip_film.specs.Shown.{path_data}
use Rattle.strip_film.proofs.Paths.{rest_lies}
use Rattle.strip_front.specs.Filled.{Follows}
use Rattle.strip_front.specs.Front.{path_at, task_at}
use Rattle.strip_front.specs.Marked.{MarksMore}
use Rattle.strip_front.specs.Shown.{front_data}
use Rattle.strip_front.proofs.Asked.{marks_line}
use Rattle.strip_front.proofs.FrontFacts.{FrontFacts, front_facts}
use Rattle.strip_front.proofs.Tried.{path_read}
use Rattle.strip_front.proofs.marks.mark_behind.Goals as goal
use Rattle.strip_front.proofs.marks.mark_behind.Goals.{After-mark_after-arg-1}

facts : (c : After-mark_after-arg-1) → FrontFacts c.requires.front.0 c.args.film.now (front_data c.args.front.now)
facts c = front_facts c.requires.front.0 c.args.film.now (front_data c.args.front.now) c.keeps_limits.ensures c.requires.front.1

rest_is : (c : After-mark_after-arg-1) → c.rest-rest.result.0 ≡ (path_at (front_data c.args.front.now) c.args.place).rest
rest_is c =
    c.rest-rest.ensures
    ∙ ap (λ (p : PathData). p.rest) (path_read c.paths.result.now c.args.front.now.paths.paths.items c.args.place c.index-paths-place.result c.paths.ensures
    (omega (arith, c.requires.place, length-map c.args.front.now.paths.paths.items path_data)) c.index-paths-place.is)

pub mark_after-requires-clause-lies : goal.mark_after-requires-clause-lies
mark_after-requires-clause-lies c =
    subst (LiesIn c.args.film.now) (sym (rest_is c))
    (rest_lies c.args.film.now (path_at (front_data c.args.front.now) c.args.place) ((facts c).is_open c.args.place c.requires.place).0)

pub mark_after-requires-clause-apart : goal.mark_after-requires-clause-apart
mark_after-requires-clause-apart c = (facts c).tasks_apart

pub returns-then-is_some : goal.returns-then-is_some
returns-then-is_some c =
    let at = (goal.at.returns-then-is_some c).After-mark_after-arg-1 in
    marks_line c.args.film.now (front_data c.args.front.now) (front_data c.mark_after.new.front) c.args.place (ap is_some (get_or_default c.args.front.now.lines.items c.args.place None c.index.result.now (omega (arith, c.requires.place, c.requires.front.1.lines)) ∙ sym c.index.ensures)
    ∙ sym c.if-is_some.ensures)
    (subst (λ (q : ℕ). MarksMore (front_data c.args.front.now) (front_data c.mark_after.new.front) (λ task. Follows c.args.film.now q (task_at (front_data c.args.front.now) task).rest))
    (rest_is at) c.mark_after.ensures)
