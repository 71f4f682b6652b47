use Rattle.std.proofs.Common.{◌≡◌, ℕ, ◌<◌, ◌≤◌, length, slice_index_or}
use Rattle.strip_layers.specs.declared.ask.Ask.{Ask}
use Rattle.strip_layers.specs.Asks.{IsAnswer}
use Rattle.strip_layers.proofs.ask.answer_in_turn.Given as goal

abbrev pub invariant-loop-ask : goal.invariant-loop-ask
invariant-loop-ask g l = record {
  count : length l.asks ≡ length l.fn.asks;
  done : (place : ℕ) (d : Ask) → place < l.ask-index
      → IsAnswer g.B.Bounds.kind g.B.Bounds.film (slice_index_or l.fn.asks place d) (slice_index_or l.asks place d);
  rest : (place : ℕ) (d : Ask) → l.ask-index ≤ place → slice_index_or l.asks place d ≡ slice_index_or l.fn.asks place d;
}
