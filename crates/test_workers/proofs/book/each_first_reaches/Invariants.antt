use Rattle.std.proofs.Common.{◌≡◌, ℕ, ◌+◌, ◌≤◌, ◌++◌, Contains}
use Rattle.strip_mask.specs.Set.{members, without}
use Rattle.strip_mask.specs.Iter.{rest_of}
use Rattle.strip_film.specs.Film.{all_scenes}
use Rattle.strip_film.specs.Shoot.{step_cost}
use Rattle.strip_bound.specs.Bounds.{bound}
use Rattle.strip_rule.specs.Rule.{open_firsts}
use Rattle.test_workers.proofs.book.each_first_reaches.Given as goal

-- each first so far reaches the number; these and those to come are the open firsts
abbrev pub invariant-loop-scene : goal.invariant-loop-scene
invariant-loop-scene g l = record {
  reach : (scene : ℕ) → Contains l.yielded scene → l.fn.number ≤ step_cost g.B.Bounds.film (all_scenes g.B.Bounds.film) scene
      + bound g.B.Bounds.kind g.B.Bounds.film (without (all_scenes g.B.Bounds.film) scene);
  turns : l.yielded ++ rest_of l.scene-iterator ≡ members (open_firsts g.B.Bounds.film (all_scenes g.B.Bounds.film));
}
