use Rattle.std.proofs.Common.{◌≡◌, drop}
use Rattle.strip_model.specs.Pay.{works, from_first}
use Rattle.strip_model.specs.FilmOf.{film_of}
use Rattle.strip_model.proofs.pricing.from_first_scene.Given as goal

-- no scene before this place is one of the actor's
abbrev pub invariant-loop-place : goal.invariant-loop-place
invariant-loop-place l =
    from_first (works (film_of l.inst) l.actor) l.order
    ≡ from_first (works (film_of l.inst) l.actor) (drop l.place l.order)
