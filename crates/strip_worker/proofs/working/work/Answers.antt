use Rattle.std.proofs.Common.{◌∙◌, sym, ap, subst, arith}
use Rattle.strip_front.specs.Shown.{front_data}
use Rattle.strip_hand.specs.Hand.{HandData}
use Rattle.strip_hand.specs.Search.{GoesBy}
use Rattle.strip_worker.proofs.Moved.{goes_then, goes_walked, moved_ended}
use Rattle.strip_worker.proofs.Unclaimed.{one_claimed}
use Rattle.strip_worker.proofs.working.work.Goals as goal

pub loop-part-smaller : goal.loop-part-smaller
loop-part-smaller g c =
    one_claimed (g.H.Hand.shows c.loop-part.hand) (g.H.Hand.shows c.claim.new.self) (g.H.Hand.shows c.walk_part.new.hand) c.in-Some.part
    c.in-Some.ensures.claimed c.walk_part.ensures.walks

pub loop-part-preserved : goal.loop-part-preserved
loop-part-preserved g c = record {
  sound = c.walk_part.ensures.sound;
  home = c.walk_part.ensures.home ∙ c.claim.ensures.home ∙ c.loop-part.invariant.home;
  on = goes_then (g.H.Hand.shows c.args.hand.now) (g.H.Hand.shows c.loop-part.hand) (g.H.Hand.shows c.walk_part.new.hand) c.loop-part.invariant.on
      (goes_walked (g.H.Hand.shows c.loop-part.hand) (g.H.Hand.shows c.claim.new.self) (g.H.Hand.shows c.walk_part.new.hand) c.in-Some.part
      c.in-Some.ensures.claimed c.walk_part.ensures.walks);
  refusals = omega (arith, c.loop-part.invariant.refusals, ap (λ (h : HandData). h.refusals) c.in-Some.ensures.claimed.0, c.walk_part.ensures.walks.2.refusals);
  worked = record {
    search = subst (GoesBy g.B.Bounds.kind g.B.Bounds.film)
        (sym (c.walk_part.ensures.walks.2.search ∙ ap (λ (h : HandData). h.search) c.in-Some.ensures.claimed.0)) c.loop-part.invariant.worked.search;
    worked = c.in_ok-walk_part.ensures.worked;
  };
}

pub returns-clause-ended : goal.returns-clause-ended
returns-clause-ended g c = record {
  worked = moved_ended (g.H.Hand.shows c.loop-part.hand) (g.H.Hand.shows c.claim.new.self) (front_data c.args.front.now) c.loop-part.walked.found.items
      c.loop-part.walked.spent c.in_default.ensures.claimed c.loop-part.invariant.worked.worked;
  ended = ap (λ (h : HandData). h.ended) c.in_default.ensures.claimed;
}
