use Rattle.std.proofs.Common.{◌≡◌, ◌+◌, All, IfSome, vec_len}
use Rattle.strip_book.specs.Pass.{IsPassOf, known}
use Rattle.strip_book.specs.Rule.{full_weight}
use Rattle.test_workers.specs.Team.{IsOne}
use Rattle.test_workers.proofs.team.gather.Given as goal

abbrev pub invariant-loop-one : goal.invariant-loop-one
invariant-loop-one l = record {
  pass : IsPassOf l.fn.book l.pass;
  weight : (known l.pass).weight + vec_len l.passes ≡ full_weight;
  each : All (λ one. IfSome one (IsOne l.fn.book)) l.passes.items;
}

abbrev pub decreases-loop-one : goal.decreases-loop-one
decreases-loop-one l = vec_len l.passes
