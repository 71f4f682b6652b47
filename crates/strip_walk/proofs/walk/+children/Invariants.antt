use Rattle.std.proofs.Common.{◌≡◌, ◌+◌, ◌*◌}
use Rattle.strip_mask.specs.Set.{size, without}
use Rattle.strip_film.specs.Running.{IsRunning}
use Rattle.strip_film.specs.Shown.{cursor_data, running_data}
use Rattle.strip_hand.specs.Hand.{IsHand}
use Rattle.strip_walk.specs.Walked.{Walks}
use Rattle.strip_memo.specs.Memo.{IsMemo}
use Rattle.strip_walk.specs.Sifted.{AreRanked, to_walk}
use Rattle.strip_walk.proofs.Ended.{HasLine}
use Rattle.strip_walk.proofs.Settled.{AreSettled}
use Rattle.strip_walk.proofs.walk.+children.Given as goal

abbrev pub decreases-walk_on : goal.decreases-walk_on
decreases-walk_on g l = 2 * size l.running.now.path.rest.0

abbrev pub decreases-walk_child : goal.decreases-walk_child
decreases-walk_child g l = 2 * size (without l.running.now.path.rest.0 l.s) + 1

abbrev pub decreases-walk_on-loop-s : goal.decreases-walk_on-loop-s
decreases-walk_on-loop-s g l = size (to_walk l.sifted)

-- the path is as it was, what was walked so far is settled, and those that are left wait by their ranks
abbrev pub invariant-walk_on-loop-s : goal.invariant-walk_on-loop-s
invariant-walk_on-loop-s g l = record {
  sound : g.H.Hand.is_sound l.hand;
  home : g.H.Hand.home l.hand ≡ g.H.Hand.home l.fn.hand;
  limits : IsHand (g.H.Hand.shows l.hand);
  running : IsRunning g.B.Bounds.film (running_data l.running);
  path : (running_data l.running).path ≡ (running_data l.fn.running).path;
  walks : Walks (g.H.Hand.shows l.fn.hand) (cursor_data l.fn.cursor) (running_data l.fn.running).path (g.H.Hand.shows l.hand) (cursor_data l.cursor);
  line : HasLine (g.H.Hand.shows l.hand) (running_data l.fn.running).path l.opened.line;
  ranks : AreRanked (g.H.Hand.shows l.fn.hand).search.kind (g.H.Hand.shows l.fn.hand).search.film (running_data l.fn.running).path.rest l.sifted;
  settled : AreSettled (g.H.Hand.shows l.fn.hand).search (g.H.Hand.shows l.hand) (cursor_data l.cursor) (running_data l.fn.running).path
      (to_walk l.sifted) l.sifted.least l.spent;
}
