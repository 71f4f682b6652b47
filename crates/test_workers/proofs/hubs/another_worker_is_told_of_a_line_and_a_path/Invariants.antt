use Rattle.strip_model.specs.declared.kind.Kind.TheVariants.{Pairs}
use Rattle.test_workers.proofs.hubs.another_worker_is_told_of_a_line_and_a_path.Given as goal

-- the bounds are those of this film
abbrev pub ghosts-shared_by : goal.ghosts-shared_by
ghosts-shared_by o a = record { film = a.film.now; kind = Pairs }
