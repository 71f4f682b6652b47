use Rattle.strip_model.specs.declared.kind.Kind.TheVariants.{Plain}
use Rattle.test_workers.proofs.races.raced.Given as goal

-- the bounds are those of this film
abbrev pub ghosts-raced_by : goal.ghosts-raced_by
ghosts-raced_by g a = record { film = a.film.now; kind = Plain }
