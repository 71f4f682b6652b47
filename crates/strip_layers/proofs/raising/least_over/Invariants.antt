use Rattle.std.proofs.Common.{◌≡◌, ◌++◌}
use Rattle.strip_mask.specs.Iter.{rest_of}
use Rattle.strip_mask.specs.Set.{members}
use Rattle.strip_rule.specs.Rule.{open_firsts}
use Rattle.strip_layers.specs.Layer.{value_in}
use Rattle.strip_layers.proofs.Leasts.{IsLeastSo, reach_of}
use Rattle.strip_layers.proofs.raising.least_over.Given as goal

-- the least of the firsts so far; these and those to come are the open firsts
abbrev pub invariant-loop-s : goal.invariant-loop-s
invariant-loop-s l = record {
  least : IsLeastSo (reach_of l.film l.set.0 (value_in l.below.sets.keys l.below.standings.items)) l.yielded l.least;
  turns : l.yielded ++ rest_of l.s-iterator ≡ members (open_firsts l.film l.set.0);
}
