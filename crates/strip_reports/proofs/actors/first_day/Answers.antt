use Rattle.std.proofs.Common.{sym, ap, ◌∙◌}
use Rattle.strip_mask.specs.Set.{has}
use Rattle.strip_reports.proofs.Placed.{first_is, from_front}
use Rattle.strip_reports.proofs.actors.first_day.Goals as goal

pub returns-in-Some : goal.returns-in-Some
returns-in-Some c =
    ap from_front (sym c.in-Some.is ∙ c.place_from_front.ensures.place) ∙ first_is (λ crew. has crew c.args.actor) c.args.crews.now

pub returns-in-None : goal.returns-in-None
returns-in-None c =
    ap from_front (sym c.in-None.is ∙ c.place_from_front.ensures.place) ∙ first_is (λ crew. has crew c.args.actor) c.args.crews.now
