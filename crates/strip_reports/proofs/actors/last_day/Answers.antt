use Rattle.std.proofs.Common.{length, sym, ap, ◌∙◌}
use Rattle.strip_mask.specs.Set.{has}
use Rattle.strip_reports.proofs.Placed.{from_end, last_is}
use Rattle.strip_reports.proofs.actors.last_day.Goals as goal

pub returns-in-Some : goal.returns-in-Some
returns-in-Some c =
    ap (from_end (length c.args.crews.now)) (sym c.in-Some.is ∙ c.place_from_end.ensures.place)
    ∙ last_is (λ crew. has crew c.args.actor) c.args.crews.now

pub returns-in-None : goal.returns-in-None
returns-in-None c =
    ap (from_end (length c.args.crews.now)) (sym c.in-None.is ∙ c.place_from_end.ensures.place)
    ∙ last_is (λ crew. has crew c.args.actor) c.args.crews.now
