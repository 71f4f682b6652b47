use Rattle.std.proofs.Common.{◌≡◌, ◌+◌, ◌<◌, ◌≤◌, ℕ, length, slice_index}
use Rattle.strip_front.specs.Calls.{Learns}
use Rattle.strip_front.specs.Front.{path_at}
use Rattle.strip_front.specs.Raised.{AreRaised, ReachesFrom}
use Rattle.strip_front.specs.Shown.{front_data}
use Rattle.strip_front.proofs.up.raise_layer.Given as goal

-- the longer paths have their numbers, and so do those of this layer that stand before the place
abbrev pub invariant-loop-place : goal.invariant-loop-place
invariant-loop-place g l = record {
  sound : g.H.Hand.is_sound l.hand;
  home : g.H.Hand.home l.hand ≡ g.H.Hand.home l.fn.hand;
  learns : Learns (g.H.Hand.shows l.fn.hand) (g.H.Hand.shows l.hand);
  front : front_data l.front ≡ front_data l.fn.front;
  longer : AreRaised (g.H.Hand.shows l.hand) (front_data l.fn.front) l.found l.front.numbers.items (l.scene_count + 1);
  before : (place : ℕ) → place < l.place → l.scene_count ≤ length (path_at (front_data l.fn.front) place).scenes
      → ReachesFrom (g.H.Hand.shows l.hand) (front_data l.fn.front) l.found place (slice_index l.front.numbers.items place);
}
