use Rattle.std.proofs.Common.{◌≡◌, ◌<◌, ℕ, slice_index_or, vec_len}
use Rattle.strip_crew.specs.Spread.{IsValue, ask_of}
use Rattle.strip_crew.proofs.answering.fill.Given as goal

abbrev pub invariant-loop-turn : goal.invariant-loop-turn
invariant-loop-turn g l = record {
  turns : vec_len l.share.values ≡ vec_len l.fn.share.values;
  values : (turn : ℕ) → turn < l.turn
      → IsValue g.B.Bounds.kind g.B.Bounds.film l.fn.asks (ask_of l.fn.workers l.fn.worker turn) (slice_index_or l.share.values.items turn 0);
}
