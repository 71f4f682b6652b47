use Rattle.strip_model.specs.declared.kind.Kind.TheVariants.{Arrivals}
use Rattle.test_bounds.proofs.cases.kept_reach.Given as goal

-- the bounds are those of this film
abbrev pub ghosts-reach_of : goal.ghosts-reach_of
ghosts-reach_of a = record { film = a.film.now; kind = Arrivals }
