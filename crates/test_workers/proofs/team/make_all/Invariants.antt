use Rattle.std.proofs.Common.{◌≡◌, ◌+◌, All, vec_len}
use Rattle.strip_book.specs.Pass.{known}
use Rattle.strip_book.specs.Rule.{full_weight}
use Rattle.test_workers.specs.Team.{IsNew, IsWorker}
use Rattle.test_workers.proofs.team.make_all.Given as goal

abbrev pub invariant-loop-desk : goal.invariant-loop-desk
invariant-loop-desk g l = record {
  pass : IsNew g.B.Bounds.kind g.B.Bounds.film 2500 l.fn.book l.pass;
  weight : (known l.pass).weight + l.desk ≡ full_weight;
  count : vec_len l.passes ≡ l.desk;
  workers : All (IsWorker g.B.Bounds.kind g.B.Bounds.film 2500 l.fn.book) l.passes.items;
}
