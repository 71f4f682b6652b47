use Rattle.std.proofs.Common.{◌≡◌, ℕ, ◌++◌, not}
use Rattle.strip_mask.specs.Set.{has, members}
use Rattle.strip_mask.specs.Iter.{rest_of}
use Rattle.strip_arrivals.specs.Arrivals.{actors_of, is_without}
use Rattle.strip_arrivals.proofs.table.ArrivalsTable.scenes_with.Given as goal

-- the scenes with one of these actors; they and those to come are all
abbrev pub invariant-loop-actor : goal.invariant-loop-actor
invariant-loop-actor l = record {
  told : (scene : ℕ) → has l.scenes.0 scene ≡ not (is_without l.self (actors_of l.yielded) scene);
  turns : l.yielded ++ rest_of l.actor-iterator ≡ members l.fn.actors.0;
}
