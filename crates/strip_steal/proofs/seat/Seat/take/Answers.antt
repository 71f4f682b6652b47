use Rattle.std.proofs.Common.{ap, arith, subst, sym}
use Rattle.strip_steal.specs.declared.share.Share.{Share}
use Rattle.strip_steal.specs.Steps.{IsClosed}
use Rattle.strip_steal.proofs.Rules.{takes}
use Rattle.strip_steal.proofs.seat.Seat.take.Goals as goal

pub steal_as-requires-clause-takes : goal.steal_as-requires-clause-takes
steal_as-requires-clause-takes g c = takes _ _ (omega (arith, c.requires.some_weight, ap (λ (s : Share). s.weight) c.loop-turn.invariant.1))
    (subst (λ (s : Share). IsClosed s.put) (sym c.loop-turn.invariant.1) c.requires.closed)
