use Rattle.std.proofs.Common.{◌≡◌, All, vec_len}
use Rattle.strip_crew.specs.Spread.{HasTurns}
use Rattle.strip_crew.proofs.answering.make_shares.Given as goal

abbrev pub invariant-loop-worker : goal.invariant-loop-worker
invariant-loop-worker l = record {
  count : vec_len l.shares ≡ l._worker;
  each : All (HasTurns l.fn.asks l.fn.workers) l.shares.items;
}
