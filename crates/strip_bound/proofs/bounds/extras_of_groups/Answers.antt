use Rattle.std.proofs.Common.{◌≡◌, ℕ, ◌+◌, ◌<◌, false, true, length, map, ap, ◌∙◌, arith}
use Rattle.strip_mask.specs.Set.{members, size}
use Rattle.strip_mask.proofs.Below.{is_set_below}
use Rattle.strip_film.proofs.Located.{location_lies}
use Rattle.strip_model.specs.declared.kind.Kind.TheVariants.{Groups}
use Rattle.strip_group.specs.Group.{GroupData, group_extra}
use Rattle.strip_bound.specs.Bounds.{by_six, groups_extra, groups_of, set_of}
use Rattle.strip_bound.proofs.Small.{bound_small}
use Rattle.strip_bound.proofs.Turns.{size_some, fewer_left, groups_none, groups_sum, group_within}
use Rattle.strip_bound.proofs.bounds.extras_of_groups.Goals as goal

pub loop-q-init : goal.loop-q-init
loop-q-init c = record {
  sum = omega (arith, ap (λ (set : ℕ). groups_extra c.args.film.now c.args.q.0 (map set_of (by_six (members set)))) c.on-left.ensures);
  located = rw c.on-left.ensures (location_lies c.args.film.now c.args.q.0 c.keeps_limits.ensures);
}

pub extra-sum-requires-clause-known : goal.extra-sum-requires-clause-known
extra-sum-requires-clause-known c i there =
    let known : i < length c.args.film.now.rates
    = group_within (length c.args.film.now.rates) c.loop-q.left.0 c.first_six.result.0.0 c.first_six.ensures.group c.loop-q.invariant.located i there in
    omega (arith, known, ap (λ (group_film : GroupData). length group_film.holds) c.requires.tables.groups, c.keeps_limits.ensures.hold_count)

some_left : (c : goal.After-extra-sum) → 0 < size c.loop-q.left.0
some_left c = size_some c.loop-q.left.0 (is_set_below (length c.args.film.now.rates) c.loop-q.left.0 c.keeps_limits.ensures.actor_count c.loop-q.invariant.located) (λ none. let e : c.is_empty.result ≡ true = c.is_empty.ensures.1 none in
    let f : c.is_empty.result ≡ false = c.loop-q-test.true in cc)

added : (c : goal.After-extra-sum) → c.loop-q.sum + c.extra-sum.result
    + groups_extra c.args.film.now c.args.q.0 (map set_of (by_six (members c.first_six.result.1.0))) ≡ groups_extra c.args.film.now c.args.q.0 (groups_of c.args.film.now c.args.q.0)
added c = groups_sum c.args.film.now c.args.q.0 c.loop-q.left.0 c.first_six.result.0.0 c.first_six.result.1.0 c.loop-q.sum c.extra-sum.result
    (groups_extra c.args.film.now c.args.q.0 (groups_of c.args.film.now c.args.q.0)) (some_left c) c.first_six.ensures.group c.first_six.ensures.rest
    (c.extra-sum.ensures ∙ ap (λ (group_film : GroupData). group_extra group_film c.args.q.0 c.first_six.result.0.0) c.requires.tables.groups) c.loop-q.invariant.sum

pub overflow_add-sum : goal.overflow_add-sum
overflow_add-sum c = omega (arith, added c, bound_small Groups c.args.film.now c.args.q.0 c.keeps_limits.ensures c.requires.lies)

pub loop-q-smaller : goal.loop-q-smaller
loop-q-smaller c = fewer_left c.loop-q.left.0 c.first_six.result.1.0 (some_left c) c.first_six.ensures.rest

pub loop-q-preserved : goal.loop-q-preserved
loop-q-preserved c = record { sum = added c; located = λ i there. c.loop-q.invariant.located i (c.first_six.ensures.within i there) }

pub returns : goal.returns
returns c = omega (arith, c.loop-q.invariant.sum, groups_none c.args.film.now c.args.q.0 c.loop-q.left.0 (c.is_empty.ensures.0 c.loop-q-test.false))
