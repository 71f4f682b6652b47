use Rattle.std.proofs.Common.{◌≡◌, ◌+◌, All}
use Rattle.strip_least.specs.Pass.{IsPassOf, known}
use Rattle.test_workers.proofs.least.deal.Given as goal

abbrev pub invariant-loop-turn : goal.invariant-loop-turn
invariant-loop-turn l =
    IsPassOf l.least l.pass × ((known l.pass).weight + l._turn ≡ (known l.fn.pass).weight) × All (IsPassOf l.least) l.passes.items
