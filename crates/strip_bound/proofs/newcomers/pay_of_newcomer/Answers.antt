use Rattle.std.proofs.Common.{◌≡◌, ℕ, ◌*◌, ◌≤◌, List, slice_index, ap, ◌∙◌, arith}
use Rattle.std.proofs.lemmas.Grind.{get_or_default_zero}
use Rattle.strip_mask.specs.Set.{meet, minus, sum_over}
use Rattle.strip_group.specs.Group.{GroupData}
use Rattle.strip_film.proofs.Costs.{days_small}
use Rattle.strip_bound.proofs.Coming.{days_of_others}
use Rattle.strip_bound.proofs.Small.{wait_small}
use Rattle.strip_bound.proofs.newcomers.pay_of_newcomer.Goals as goal

-- the days of the scenes that were found
found_days : (c : goal.After-sum) → c.sum.result ≡ sum_over c.args.film.now.days c.minus-without.result.0
found_days c = c.sum.ensures ∙ ap (λ (days : List ℕ). sum_over days c.minus-without.result.0)
    (c.day_sums.ensures ∙ ap (λ (film : GroupData). film.days) c.requires.tables.groups)

pub overflow_mul-result : goal.overflow_mul-result
overflow_mul-result c =
    let few : c.sum.result ≤ 19800 = omega (arith, found_days c, days_small c.args.film.now c.minus-without.result.0 c.keeps_limits.ensures) in
    rw c.holds.ensures (omega (
      arith,
      wait_small c.args.film.now c.args.newcomer c.sum.result c.keeps_limits.ensures (omega (arith, c.requires.known, c.keeps_limits.ensures.actor_count)) few,
    ))

pub returns : goal.returns
returns c =
    let film = c.args.film.now in
    let plays = c.args.tables.now.plays.items in
    let of_newcomer : c.index.result.now ≡ slice_index plays c.args.newcomer
    = c.index.ensures ∙ get_or_default_zero plays c.args.newcomer c.index.result.now (omega (arith, c.requires.known, c.requires.tables.plays.count)) in
    let theirs : ℕ = c.scenes_with_any.result.0 in
    let scenes : c.minus-without.result.0 ≡ minus (meet theirs c.args.q.0) (slice_index plays c.args.newcomer)
    = c.minus-without.ensures ∙ (λ i. minus (c.meet.ensures i) (of_newcomer i)) in
    let days = found_days c ∙ ap (sum_over film.days) scenes
    ∙ days_of_others film plays c.requires.tables.plays theirs c.args.q.0 c.args.newcomer c.args.actors.0 c.scenes_with_any.ensures in
    (λ i. slice_index (c.holds.ensures i) c.args.newcomer * days i)
