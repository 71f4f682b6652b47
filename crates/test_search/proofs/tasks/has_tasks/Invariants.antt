use Rattle.test_search.proofs.tasks.has_tasks.Given as goal

-- the bounds are those of this film
abbrev pub ghosts-makes_tasks : goal.ghosts-makes_tasks
ghosts-makes_tasks a = record { film = a.film.now; kind = a.kind }
