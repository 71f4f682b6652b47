use Rattle.std.proofs.Common.{ℕ, List, not, ◌+◌, ◌-◌, ◌&&◌, length, take, drop, ap, ◌∙◌, subst, sym, arith}
use Rattle.std.proofs.lemmas.List.{length-drop, take_all}
use Rattle.strip_mask.specs.Set.{LiesBelow, meet, minus}
use Rattle.strip_mask.proofs.Below.{LiesBelow-minus}
use Rattle.strip_mask.proofs.ByMembers.{has-meet, has-minus}
use Rattle.strip_model.specs.Pay.{works}
use Rattle.strip_model.specs.FilmOf.{film_of}
use Rattle.strip_reports.specs.Days.{scene_at, works_among}
use Rattle.strip_reports.proofs.Places.{meet_lies}
use Rattle.strip_reports.proofs.figures.held_at.Goals as goal

pub returns-clause-held : goal.returns-clause-held
returns-clause-held c = λ actor.
    let film = film_of c.args.inst.now in
    let order = c.args.order.now in
    let place = c.args.place in
    let called = c.cast_among-called.result.0 in
    let needed = c.cast_among-needed.result.0 in
    let cast = c.cast_of.result.0 in
    let later = drop (place + 1) order in
    let all = take_all (length order - (place + 1)) later (omega (arith, length-drop (place + 1) order)) in
    rw (c.minus.ensures, c.meet.ensures) (has-minus (meet called needed) cast actor
    ∙ rw (has-meet called needed actor, c.cast_among-called.ensures.cast actor, c.cast_among-needed.ensures.cast actor, c.cast_of.ensures.cast actor)
    (ap (λ (scenes : List ℕ). works_among film (take place order) actor && works_among film scenes actor && not (works film actor (scene_at order place))) all))

pub returns-clause-lies : goal.returns-clause-lies
returns-clause-lies c =
    let n = length c.args.inst.now.actors in
    subst (LiesBelow n) (sym (c.minus.ensures ∙ ap (λ (set : ℕ). minus set c.cast_of.result.0) c.meet.ensures))
    (LiesBelow-minus n (meet c.cast_among-called.result.0 c.cast_among-needed.result.0) c.cast_of.result.0
    (meet_lies n c.cast_among-called.result.0 c.cast_among-needed.result.0 c.cast_among-called.ensures.lies))
