use Rattle.std.proofs.Common.{◌≡◌, ℕ, true, ◌++◌}
use Rattle.strip_mask.specs.Iter.{rest_of}
use Rattle.strip_mask.specs.Set.{has, members}
use Rattle.strip_memo.proofs.memo.Memo.standing.Given as goal

-- those that stand are among the scenes; the scenes so far and those to come are all
abbrev pub invariant-loop-s : goal.invariant-loop-s
invariant-loop-s g l = record {
  among : (scene : ℕ) → has l.standing.0 scene ≡ true → has l.fn.scenes.0 scene ≡ true;
  turns : l.yielded ++ rest_of l.s-iterator ≡ members l.fn.scenes.0;
}
