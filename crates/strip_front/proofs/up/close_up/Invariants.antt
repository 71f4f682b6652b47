use Rattle.std.proofs.Common.{◌≡◌}
use Rattle.strip_front.specs.Calls.{Learns}
use Rattle.strip_front.specs.Raised.{AreRaised}
use Rattle.strip_front.specs.Shown.{front_data}
use Rattle.strip_front.proofs.up.close_up.Given as goal

-- the paths of so many scenes and more have their numbers
abbrev pub invariant-loop-scene_count : goal.invariant-loop-scene_count
invariant-loop-scene_count g l = record {
  sound : g.H.Hand.is_sound l.hand;
  home : g.H.Hand.home l.hand ≡ g.H.Hand.home l.fn.hand;
  learns : Learns (g.H.Hand.shows l.fn.hand) (g.H.Hand.shows l.hand);
  front : front_data l.front ≡ front_data l.fn.front;
  raised : AreRaised (g.H.Hand.shows l.hand) (front_data l.fn.front) l.found l.front.numbers.items l.scene_count;
}
