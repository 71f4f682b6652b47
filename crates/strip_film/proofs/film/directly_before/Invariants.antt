use Rattle.std.proofs.Common.{◌≡◌, length, take}
use Rattle.strip_film.specs.Film.{TellsBefore}
use Rattle.strip_film.proofs.film.directly_before.Given as goal

-- the table of the pairs so far
abbrev pub invariant-loop-pair : goal.invariant-loop-pair
invariant-loop-pair l = record {
  long : length l.before ≡ 64;
  tells : TellsBefore (take l.pair-index l.pairs) l.before;
}
