use Rattle.std.proofs.Common.{ap, List}
use Rattle.strip_trim.specs.declared.best.BestLine.{BestLine}
use Rattle.strip_trim.specs.Best.{best_at}
use Rattle.strip_trim.proofs.Marking.{mark_absent, mark_found}
use Rattle.strip_trim.proofs.marks.mark.Goals as goal

pub returns-in-Some : goal.returns-in-Some
returns-in-Some c =
    mark_found c.args.best.now.lines c.args.best.now.entries c.in-Some.ensures.best c.args.q.0 c.args.marks.now c.requires c.in-Some.place
    (best_at c.entries.result.now c.in-Some.place).line c.in-Some.ensures.place
    (ap (λ (entries : List BestLine). (best_at entries c.in-Some.place).line) c.entries.ensures.entries)

pub returns-in_default : goal.returns-in_default
returns-in_default c = mark_absent c.args.best.now.lines c.args.best.now.entries c.in_default.ensures.best c.args.q.0 c.args.marks.now c.requires c.in_default.ensures.place
