use Rattle.std.proofs.Common.{◌≡◌, ℕ, false, length, take, slice_index_or}
use Rattle.strip_reduce.specs.Steps.{is_paired}
use Rattle.strip_reduce.proofs.search.paired.Given as goal

abbrev pub invariant-loop-pair : goal.invariant-loop-pair
invariant-loop-pair l = record {
  long : length l.marks ≡ 200;
  marked : (scene : ℕ) → slice_index_or l.marks scene false ≡ is_paired (take l.pair-index l.pairs) scene;
}
