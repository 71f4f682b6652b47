use Rattle.std.proofs.Common.{◌≡◌}
use Rattle.strip_front.specs.Shown.{front_data}
use Rattle.test_search.specs.Way.{IsOnItsWay}
use Rattle.test_search.proofs.walks.take_tasks.Given as goal

-- the search is on its way over the hand
abbrev pub invariant-loop : goal.invariant-loop
invariant-loop g l = record {
  sound : g.H.Hand.is_sound l.hand;
  home : g.H.Hand.home l.hand ≡ g.H.Hand.home l.fn.hand;
  way : IsOnItsWay g.B.Bounds.kind g.B.Bounds.film (g.H.Hand.shows l.hand) (front_data l.front) l.found.items;
}
