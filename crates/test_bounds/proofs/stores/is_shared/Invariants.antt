use Rattle.strip_model.specs.declared.kind.Kind.TheVariants.{Arrivals}
use Rattle.test_bounds.proofs.stores.is_shared.Given as goal

-- the bounds are those of this film
abbrev pub ghosts-is_shared_of : goal.ghosts-is_shared_of
ghosts-is_shared_of g a = record { film = a.film.now; kind = Arrivals }
