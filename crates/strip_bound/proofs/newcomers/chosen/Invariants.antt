use Rattle.std.proofs.Common.{◌≡◌, ◌++◌, ◌<◌, All, length, slice_index, take}
use Rattle.strip_mask.specs.Set.{members}
use Rattle.strip_mask.specs.Iter.{rest_of}
use Rattle.strip_bound.specs.Falling.{by_falling}
use Rattle.strip_bound.proofs.newcomers.chosen.Given as goal

-- the two best of the newcomers so far; these and those to come are all
abbrev pub invariant-loop-newcomer : goal.invariant-loop-newcomer
invariant-loop-newcomer l = record {
  best : l.best.items ≡ take 2 (by_falling (slice_index l.scores) l.yielded);
  listed : All (λ other. other < length l.scores) l.best.items;
  turns : l.yielded ++ rest_of l.newcomer-iterator ≡ members l.fn.newcomers.0;
}
