use Rattle.std.proofs.Common.{◌≡◌, ℕ, ◌++◌, Contains, length, slice_index}
use Rattle.strip_mask.specs.Set.{members}
use Rattle.strip_mask.specs.Iter.{rest_of}
use Rattle.strip_bound.specs.Bounds.{score}
use Rattle.strip_bound.proofs.newcomers.scores.Given as goal

-- the scores of the newcomers so far; these and those to come are all
abbrev pub invariant-loop-newcomer : goal.invariant-loop-newcomer
invariant-loop-newcomer l = record {
  long : length l.scores ≡ 64;
  so_far : (newcomer : ℕ) → Contains l.yielded newcomer → slice_index l.scores newcomer ≡ score l.film l.q.0 l.group.0 newcomer;
  turns : l.yielded ++ rest_of l.newcomer-iterator ≡ members l.fn.newcomers.0;
}
