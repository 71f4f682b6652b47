use Rattle.strip_check.proofs.proof.against_proof.Given as goal

-- the bounds are those of this film
abbrev pub ghosts-against_bounds : goal.ghosts-against_bounds
ghosts-against_bounds a = record { film = a.film.now; kind = a.plan.now.kind }
