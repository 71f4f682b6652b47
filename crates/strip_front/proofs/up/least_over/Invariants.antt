use Rattle.std.proofs.Common.{◌≡◌, ◌++◌, ◌<◌, ◌≤◌, ◌^◌, ℕ}
use Rattle.strip_mask.specs.Set.{members}
use Rattle.strip_mask.specs.Iter.{rest_of}
use Rattle.strip_rule.specs.Rule.{open_firsts}
use Rattle.strip_front.specs.Raised.{ReachesBy}
use Rattle.strip_front.specs.Shown.{front_data}
use Rattle.strip_front.proofs.Least.{MostOf}
use Rattle.strip_front.proofs.up.least_over.Given as goal

-- the least of the scenes so far; these and those to come are the open firsts
abbrev pub invariant-loop-scene : goal.invariant-loop-scene
invariant-loop-scene l = record {
  most : MostOf (ReachesBy l.film (front_data l.front) l.found l.front.numbers.items l.fn.rest.0) l.yielded l.least;
  least : (value : ℕ) → value < 2 ^ 64 → MostOf (ReachesBy l.film (front_data l.front) l.found l.front.numbers.items l.fn.rest.0) l.yielded value → value ≤ l.least;
  turns : l.yielded ++ rest_of l.scene-iterator ≡ members (open_firsts l.film l.fn.rest.0);
}
