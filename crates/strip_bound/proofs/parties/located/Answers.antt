use Rattle.std.proofs.Common.{◌≡◌, ℕ, ◌<◌, ◌≤◌, List, filter, length, slice_index, ap, ◌∙◌, subst, sym, arith}
use Rattle.std.proofs.lemmas.List.{take_all}
use Rattle.strip_mask.specs.Set.{has}
use Rattle.strip_bound.proofs.Steps.{falling_below, kept_few, length_falling, kept_falling}
use Rattle.strip_bound.proofs.parties.located.Goals as goal

pub has-requires : goal.has-requires
has-requires c =
    let known : slice_index c.deref-actor-items.result.now c.loop-actor.actor-index < length c.args.film.now.holds
    = subst (λ (items : List ℕ). slice_index items c.loop-actor.actor-index < length c.args.film.now.holds) (sym (c.deref-actor-items.ensures.0 ∙ c.requires.tables.by_hold))
    (falling_below (slice_index c.args.film.now.holds) (length c.args.film.now.holds) c.loop-actor.actor-index
    (omega (arith, c.loop-actor-test.true, ap length (c.deref-actor-items.ensures.0 ∙ c.requires.tables.by_hold)))) in
    omega (arith, known, c.keeps_limits.ensures.hold_count, c.keeps_limits.ensures.actor_count)

pub push-requires : goal.push-requires
push-requires c =
    let few : length c.loop-actor.located.items ≤ c.loop-actor.actor-index
    = omega (arith, ap length c.loop-actor.invariant, kept_few (has c.args.on.0) c.loop-actor.actor-index c.args.tables.now.by_hold.items) in
    let all : length c.deref-actor-items.result.now ≡ length c.args.film.now.holds
    = ap length (c.deref-actor-items.ensures.0 ∙ c.requires.tables.by_hold) ∙ length_falling (slice_index c.args.film.now.holds) (length c.args.film.now.holds) in
    (omega arith, omega (arith, few, all, c.loop-actor-test.true, c.keeps_limits.ensures.hold_count, c.keeps_limits.ensures.actor_count))

pub returns : goal.returns
returns c =
    let items = c.args.tables.now.by_hold.items in
    c.loop-actor.invariant
    ∙ ap (filter (has c.args.on.0)) (take_all c.loop-actor.actor-index items (omega (arith, ap length c.deref-actor-items.ensures.0, c.loop-actor-test.false))
    ∙ c.requires.tables.by_hold)
    ∙ kept_falling (slice_index c.args.film.now.holds) c.args.on.0 (length c.args.film.now.holds)
    (omega (arith, c.keeps_limits.ensures.hold_count, c.keeps_limits.ensures.actor_count))
    (λ actor there. omega (arith, c.requires.lies actor there, c.keeps_limits.ensures.hold_count))
