use Rattle.std.proofs.Common.{ℕ, ◌+◌, ◌*◌, length, take, slice_index, sym, ap, ◌∙◌}
use Rattle.std.proofs.lemmas.List.{length-map}
use Rattle.std.proofs.lemmas.List.Sums.{sum_by_more}
use Rattle.strip_model.specs.Pay.{works}
use Rattle.strip_model.specs.Data.{ActorData}
use Rattle.strip_model.specs.FilmOf.{film_of}
use Rattle.strip_reports.specs.Days.{days_of, is_held, scene_at}
use Rattle.strip_reports.proofs.Below.{size_counts, rates_sum}
use Rattle.strip_reports.proofs.figures.figures_at.Goals as goal

pub returns-clause-figures : goal.returns-clause-figures
returns-clause-figures c =
    let film = film_of c.args.inst.now in
    let order = c.args.order.now in
    let place = c.args.place in
    let scene = scene_at order place in
    let count = sym (length-map c.args.inst.now.actors (λ (actor : ActorData). actor.rate)) in
    let few = c.keeps_limits.ensures.actor_count in
    let days = c.days_in-days.ensures.days in
    let first = ap (λ (n : ℕ). n + 1) c.days_of-before.ensures.days in
    let last = ap (λ (n : ℕ). n + c.days_in-days.result) c.days_of-before.ensures.days
    ∙ ap (λ (n : ℕ). days_of film (take place order) + n) days ∙ sym (sum_by_more (slice_index film.days) order place 0 c.requires.place) in
    let working = c.from.ensures ∙ c.size.ensures
    ∙ size_counts (length c.args.inst.now.actors) (length film.rates) c.cast_of-working.result.0 (λ actor. works film actor scene)
    count few c.cast_of-working.ensures.lies c.cast_of-working.ensures.cast in
    let holding = c.from-2.ensures ∙ c.size-2.ensures
    ∙ size_counts (length c.args.inst.now.actors) (length film.rates) c.held_at-held.result.0 (is_held film order place)
    count few c.held_at-held.ensures.lies c.held_at-held.ensures.held in
    let pay = ap (λ (n : ℕ). n * c.pay_of_day.result) days
    ∙ ap (λ (n : ℕ). slice_index film.days scene * n) (c.pay_of_day.ensures.pay
    ∙ rates_sum film (length c.args.inst.now.actors) (length film.rates) c.cast_of-working.result.0 c.held_at-held.result.0
    (λ actor. works film actor scene) (is_held film order place) count c.cast_of-working.ensures.cast c.held_at-held.ensures.held) in
    λ i. record { first = first i; last = last i; days = days i; working = working i; holding = holding i; pay = pay i }
