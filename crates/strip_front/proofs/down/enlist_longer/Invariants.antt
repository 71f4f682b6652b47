use Rattle.std.proofs.Common.{◌≡◌, length}
use Rattle.strip_film.specs.Shown.{cursor_data}
use Rattle.strip_front.specs.Calls.{GoesDown}
use Rattle.strip_front.specs.Shown.{front_data}
use Rattle.strip_front.specs.Tried.{AreTried}
use Rattle.strip_front.proofs.down.enlist_longer.Given as goal

-- the paths before this place were tried
abbrev pub invariant-loop-place : goal.invariant-loop-place
invariant-loop-place g l = record {
  sound : g.H.Hand.is_sound l.hand;
  home : g.H.Hand.home l.hand ≡ g.H.Hand.home l.fn.hand;
  down : GoesDown (g.H.Hand.shows l.fn.hand) (g.H.Hand.shows l.hand) (cursor_data l.cursor);
  only : front_data l.front ≡ record (front_data l.fn.front) { lines = l.front.lines.items };
  room : length l.front.lines.items ≡ length l.fn.front.lines.items;
  tried : AreTried (g.H.Hand.shows l.hand) (cursor_data l.cursor) (record (front_data l.fn.front) { lines = l.front.lines.items }) l.place l.spent;
}
