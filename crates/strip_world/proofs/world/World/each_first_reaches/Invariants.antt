use Rattle.std.proofs.Common.{◌≡◌, ℕ, ◌+◌, ◌≤◌, ◌++◌, Contains}
use Rattle.strip_mask.specs.Set.{members, without}
use Rattle.strip_mask.specs.Iter.{rest_of}
use Rattle.strip_film.specs.Shoot.{step_cost}
use Rattle.strip_rule.specs.Rule.{open_firsts}
use Rattle.strip_lines.specs.Lines.{known}
use Rattle.strip_hand.specs.Search.{search_rules}
use Rattle.strip_world.proofs.world.World.each_first_reaches.Given as goal

-- each first so far reaches the bound; these and those to come are the open firsts
abbrev pub invariant-loop-scene : goal.invariant-loop-scene
invariant-loop-scene g l = record {
  reach : (scene : ℕ) → Contains l.yielded scene → l.fn.bound ≤ step_cost l.fn.self.search.film l.fn.set.0 scene
      + known (search_rules l.fn.self.search) l.fn.self.lines (without l.fn.set.0 scene);
  turns : l.yielded ++ rest_of l.scene-iterator ≡ members (open_firsts l.fn.self.search.film l.fn.set.0);
}
