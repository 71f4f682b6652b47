use Rattle.std.proofs.Common.{◌≡◌, ℕ, length, ap, ◌∙◌, arith}
use Rattle.strip_bound.proofs.Weights.{plays_are}
use Rattle.strip_bound.proofs.tables.plays_of.Goals as goal

pub returns : goal.returns
returns c =
    let at : c.loop-actor.actor ≡ length c.args.film.now.rates
    = omega (arith, ap (length {A = ℕ}) c.rates-actor-end.ensures, c.loop-actor-test.false, c.loop-actor.auto.actor-end) in
    plays_are c.args.film.now c.loop-actor.plays.items c.keeps_limits.ensures (c.loop-actor.invariant.count ∙ at)
    (λ actor known. c.loop-actor.invariant.each actor (omega (arith, known, at)))
