use Rattle.strip_film.specs.Shown.{path_data}
use Rattle.strip_film.proofs.Started.{IsRunning-start}
use Rattle.strip_film.proofs.running.Running.start.Goals as goal

pub returns-clause-running : goal.returns-clause-running
returns-clause-running c = IsRunning-start c.args.film.now (path_data c.start.result) c.scenes_of_each.result c.start.ensures.path c.start.ensures.start c.scenes_of_each.ensures
