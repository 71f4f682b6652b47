use Rattle.std.proofs.Common.{◌≡◌, get_or, subst}
use Rattle.strip_trim.specs.Best.{BestData}
use Rattle.strip_trim.proofs.BestFound.{bound_absent, bound_at}
use Rattle.strip_trim.proofs.best.Best.bound_of.Goals as goal

pub returns-in-Some : goal.returns-in-Some
returns-in-Some c =
    bound_at c.args.self.now.lines c.args.self.now.entries c.in-Some.place c.args.set c.index.result.now c.in-Some.ensures.best c.in-Some.ensures.place
    (subst (λ (view : BestData). c.index.result.now ≡ get_or view.entries c.in-Some.place c.index.result.now) c.self.view_is c.index.ensures)

pub returns-in-None : goal.returns-in-None
returns-in-None c = bound_absent c.args.self.now.lines c.args.self.now.entries c.args.set c.in-None.ensures.best c.in-None.ensures.place
