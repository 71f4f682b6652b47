use Rattle.std.proofs.Common.{◌≡◌, ℕ, true, not, ◌&&◌, nat_lt, leb, filter, length, slice_index, ap, ◌∙◌, sym, arith}
use Rattle.std.proofs.lemmas.Grind.{get_or_default_zero}
use Rattle.strip_mask.specs.Set.{has, meet, members, size}
use Rattle.strip_model.specs.Pay.{works}
use Rattle.strip_film.specs.Shoot.{on_location}
use Rattle.strip_bound.proofs.Steps.{scenes_counted, two_or_more}
use Rattle.strip_bound.proofs.newcomers.is_newcomer.Goals as goal

pub returns-then-not-has : goal.returns-then-not-has
returns-then-not-has c =
    let plays = c.args.tables.now.plays.items in
    let of_actor : c.index.result.now ≡ slice_index plays c.args.actor
    = c.index.ensures ∙ get_or_default_zero plays c.args.actor c.index.result.now (omega (arith, c.requires.known, c.requires.tables.plays.count)) in
    let count : c.size.result ≡ length (filter (works c.args.film.now c.args.actor) (members c.args.q.0))
    = c.size.ensures ∙ ap size (c.meet-scenes.ensures ∙ ap (λ (set : ℕ). meet set c.args.q.0) of_actor)
    ∙ scenes_counted c.args.film.now plays c.args.q.0 c.args.actor c.requires.tables.plays in
    let away : not (has (on_location c.args.film.now c.args.q.0) c.args.actor) ≡ true
    = ap not (ap (λ (on : ℕ). has on c.args.actor) (sym c.requires.on) ∙ sym c.has.ensures ∙ c.if-not-has.true) in
    ap (leb 2) count ∙ two_or_more (length (filter (works c.args.film.now c.args.actor) (members c.args.q.0)))
    ∙ sym (ap (λ b. b && nat_lt 1 (length (filter (works c.args.film.now c.args.actor) (members c.args.q.0)))) away)
