use Rattle.strip_model.specs.declared.kind.Kind.TheVariants.{Plain}
use Rattle.test_bounds.proofs.small.kept_plain.Given as goal

-- the bounds are those of this film
abbrev pub ghosts-plain_of : goal.ghosts-plain_of
ghosts-plain_of a = record { film = a.film.now; kind = Plain }
