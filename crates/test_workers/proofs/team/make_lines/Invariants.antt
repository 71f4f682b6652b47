use Rattle.std.proofs.Common.{◌≡◌, ◌+◌}
use Rattle.strip_book.specs.Pass.{IsPassOf, known}
use Rattle.test_workers.specs.Team.{AreFreshFrom}
use Rattle.test_workers.proofs.team.make_lines.Given as goal

abbrev pub invariant-loop-part : goal.invariant-loop-part
invariant-loop-part g l = record {
  pass : IsPassOf l.fn.book l.pass;
  weight : (known l.pass).weight ≡ 1;
  search : (known l.pass).search ≡ (known l.fn.pass).search;
  fresh : AreFreshFrom (l.part + 1) (known l.pass).entries;
}
