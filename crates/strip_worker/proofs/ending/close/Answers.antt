use Rattle.std.proofs.Common.{ℕ, List, sym, subst}
use Rattle.strip_front.specs.Shown.{front_data}
use Rattle.strip_worker.specs.Team.{HasWorked}
use Rattle.strip_worker.proofs.Closed.{closed}
use Rattle.strip_worker.proofs.ending.close.Goals as goal

pub returns-clause-closed : goal.returns-clause-closed
returns-clause-closed g c =
    let front = front_data c.args.front.now in
    let before = g.H.Hand.shows c.args.hand.now in
    closed g.B.Bounds.kind g.B.Bounds.film before (g.H.Hand.shows c.close_up.new.hand) front c.deref.result.now c.args.walked.now.spent
    c.in_ok-number.number c.requires.worked.search
    (subst (λ (found : List ℕ). HasWorked before front found c.args.walked.now.spent) (sym c.deref.ensures.value) c.requires.worked.worked)
    c.requires.all c.close_up.ensures.stays c.keeps_limits.ensures
    c.in_ok-number.ensures.closed

pub close_up-requires-clause-walked : goal.close_up-requires-clause-walked
close_up-requires-clause-walked g c =
    let worked = subst (λ (found : List ℕ). HasWorked (g.H.Hand.shows c.args.hand.now) (front_data c.args.front.now) found c.args.walked.now.spent) (sym c.deref.ensures.value)
    c.requires.worked.worked in
    record { front_of = worked.front_of; filled = worked.filled; count = worked.long; known_of = worked.known }
