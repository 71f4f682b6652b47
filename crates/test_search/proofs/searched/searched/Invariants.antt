use Rattle.test_search.proofs.searched.searched.Given as goal

-- the bounds are those of this film
abbrev pub ghosts-searched_under : goal.ghosts-searched_under
ghosts-searched_under a = record { film = a.film.now; kind = a.kind }
