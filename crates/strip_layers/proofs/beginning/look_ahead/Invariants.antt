use Rattle.std.proofs.Common.{◌≡◌, ◌++◌}
use Rattle.strip_mask.specs.Iter.{rest_of}
use Rattle.strip_mask.specs.Set.{members}
use Rattle.strip_film.specs.Film.{all_scenes}
use Rattle.strip_bound.specs.Bounds.{bound}
use Rattle.strip_rule.specs.Rule.{open_firsts}
use Rattle.strip_layers.proofs.Leasts.{IsLeastSo, reach_of}
use Rattle.strip_layers.proofs.beginning.look_ahead.Given as goal

-- the least of the firsts so far; these and those to come are the open firsts
abbrev pub invariant-loop-s : goal.invariant-loop-s
invariant-loop-s g l = record {
  least : IsLeastSo (reach_of l.film (all_scenes l.film) (bound g.A.Answers.kind g.A.Answers.film)) l.yielded l.least;
  turns : l.yielded ++ rest_of l.s-iterator ≡ members (open_firsts l.film (all_scenes l.film));
}
