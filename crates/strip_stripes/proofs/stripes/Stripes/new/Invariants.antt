use Rattle.std.proofs.Common.{◌≡◌, vec_len}
use Rattle.strip_book.specs.Pass.{IsPassOf, known}
use Rattle.strip_stripes.proofs.stripes.Stripes.new.Given as goal

-- as many shelves as turns, and the pass is as it was
abbrev pub invariant-loop-turn : goal.invariant-loop-turn
invariant-loop-turn g l = record {
  pass : IsPassOf l.book l.pass;
  same : known l.pass ≡ known l.fn.pass;
  count : vec_len l.shelves ≡ l._turn;
}
