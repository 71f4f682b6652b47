use Rattle.strip_hand.specs.Search.{GoesBy}
use Rattle.strip_world.specs.Sound.{IsSound}
use Rattle.test_search.proofs.worlds.are_replied.Given as goal

-- the world is sound, and its search stays
abbrev pub invariant-loop-event : goal.invariant-loop-event
invariant-loop-event g l = record {
  sound : IsSound l.world;
  search : GoesBy g.B.Bounds.kind g.B.Bounds.film l.world.search;
}
