use Rattle.std.proofs.Common.{◌≡◌, ℕ, slice_index, ap, ◌∙◌, arith}
use Rattle.std.proofs.lemmas.Grind.{get_or_default_zero}
use Rattle.strip_mask.specs.Set.{meet, minus, sum_over}
use Rattle.strip_group.specs.Group.{GroupData}
use Rattle.strip_film.proofs.Costs.{days_small}
use Rattle.strip_bound.proofs.Weights.{apart_days}
use Rattle.strip_bound.proofs.bounds.days_apart.Goals as goal

pub returns-clause-days : goal.returns-clause-days
returns-clause-days c =
    let days : c.day_sums.result.now ≡ c.args.film.now.days = c.day_sums.ensures ∙ ap (λ (film : GroupData). film.days) c.requires.tables.groups in
    let plays = c.args.tables.now.plays.items in
    let first : c.index.result.now ≡ slice_index plays c.args.a
    = c.index.ensures ∙ get_or_default_zero plays c.args.a c.index.result.now (omega (arith, c.requires.first, c.requires.tables.plays.count)) in
    let second : c.index-2.result.now ≡ slice_index plays c.args.b
    = c.index-2.ensures ∙ get_or_default_zero plays c.args.b c.index-2.result.now (omega (arith, c.requires.second, c.requires.tables.plays.count)) in
    let of_a : c.meet-of_a.result.0 ≡ meet (slice_index plays c.args.a) c.args.q.0 = c.meet-of_a.ensures ∙ ap (λ (set : ℕ). meet set c.args.q.0) first in
    let of_b : c.meet-of_b.result.0 ≡ meet (slice_index plays c.args.b) c.args.q.0 = c.meet-of_b.ensures ∙ ap (λ (set : ℕ). meet set c.args.q.0) second in
    c.sum.ensures ∙ (λ i. sum_over (days i) (c.minus.ensures i)) ∙ (λ i. sum_over c.args.film.now.days (minus (of_a i) (of_b i)))
    ∙ apart_days c.args.film.now plays c.args.q.0 c.args.a c.args.b c.requires.tables.plays

pub returns-clause-small : goal.returns-clause-small
returns-clause-small c =
    let days : c.day_sums.result.now ≡ c.args.film.now.days = c.day_sums.ensures ∙ ap (λ (film : GroupData). film.days) c.requires.tables.groups in
    rw (c.sum.ensures, days) (omega (arith, days_small c.args.film.now c.minus.result.0 c.keeps_limits.ensures))
