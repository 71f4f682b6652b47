use Rattle.strip_film.specs.Shown.{cursor_data, path_data, running_data}
use Rattle.strip_worker.proofs.Taken.{explores_task}
use Rattle.strip_worker.proofs.working.walk.Goals as goal

pub returns-clause-walked : goal.returns-clause-walked
returns-clause-walked g c =
    explores_task (g.H.Hand.shows c.args.hand.now) c.args.part (path_data c.args.task.now) c.explore.result (g.H.Hand.shows c.explore.new.hand)
    (cursor_data c.of-cursor.result) (cursor_data c.explore.new.cursor) (running_data c.of-running.result).path c.of-cursor.ensures
    c.of-running.ensures.path c.explore.ensures.explored
