use Rattle.strip_hand.specs.Search.{GoesBy}
use Rattle.strip_world.specs.Sound.{IsSound}
use Rattle.strip_world.proofs.Runs.{Took}
use Rattle.strip_world.proofs.world.World.run.Given as goal

abbrev pub invariant-loop-count : goal.invariant-loop-count
invariant-loop-count g l = record {
  took : Took l.fn.self l.fn.events l.count l.self;
  sound : IsSound l.self;
  search : GoesBy g.B.Bounds.kind g.B.Bounds.film l.self.search;
}
