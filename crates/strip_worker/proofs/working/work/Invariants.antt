use Rattle.std.proofs.Common.{◌≡◌, ◌≤◌}
use Rattle.strip_front.specs.Shown.{front_data}
use Rattle.strip_memo.specs.Memo.{IsMemo}
use Rattle.strip_worker.specs.Team.{GoesOn, HasWorkedOn}
use Rattle.strip_worker.proofs.Unclaimed.{unclaimed}
use Rattle.strip_worker.proofs.working.work.Given as goal

-- the hand has worked in the parts that it claimed so far
abbrev pub invariant-loop-part : goal.invariant-loop-part
invariant-loop-part g l = record {
  sound : g.H.Hand.is_sound l.hand;
  home : g.H.Hand.home l.hand ≡ g.H.Hand.home l.fn.hand;
  on : GoesOn (g.H.Hand.shows l.fn.hand) (g.H.Hand.shows l.hand);
  refusals : (g.H.Hand.shows l.fn.hand).refusals ≤ (g.H.Hand.shows l.hand).refusals;
  worked : HasWorkedOn g.B.Bounds.kind g.B.Bounds.film (g.H.Hand.shows l.hand) (front_data l.front) l.walked.found.items l.walked.spent;
}

abbrev pub decreases-loop-part : goal.decreases-loop-part
decreases-loop-part g l = unclaimed (g.H.Hand.shows l.hand)
