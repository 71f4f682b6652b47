use Rattle.std.proofs.Common.{◌≡◌, length}
use Rattle.strip_model.specs.declared.kind.Kind.{Kind}
use Rattle.strip_model.specs.Film.{FilmData}
use Rattle.strip_crew.specs.Spread.{AreValues}
use Rattle.strip_crew.proofs.Taken.{AreAnsweredTo}
use Rattle.strip_crew.proofs.answering.take_values.Given as goal

abbrev pub invariant-loop-number : goal.invariant-loop-number
invariant-loop-number l = record {
  count : length l.asks ≡ length l.fn.asks;
  answered : (kind : Kind) (film : FilmData) → AreValues kind film l.fn.asks l.fn.workers l.fn.shares
      → AreAnsweredTo kind film l.fn.asks l.asks l.number;
}
