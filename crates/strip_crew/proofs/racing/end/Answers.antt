use Rattle.std.proofs.Common.{◌≡◌, ap, sym, subst, arith}
use Rattle.strip_model.specs.Film.{FilmData}
use Rattle.strip_film.specs.Path.{IsComplete, PathData}
use Rattle.strip_film.specs.Shown.{path_data}
use Rattle.strip_hand.specs.Hand.{HandData}
use Rattle.strip_least.specs.Pass.{best_path, known as known_least}
use Rattle.strip_book.specs.Pass.{known}
use Rattle.strip_worker.specs.Closed.{IsSettled}
use Rattle.strip_crew.specs.Crew.{shown}
use Rattle.strip_crew.proofs.Settled.{counted_by}
use Rattle.strip_crew.proofs.Shut.{where_ended}
use Rattle.strip_crew.proofs.racing.end.Goals as goal

pub returns : goal.returns
returns g c =
    let closed = c.requires.closed.1 in
    let hand : HandData = shown c.args.passes in
    let all = c.in_ok-lines.ensures in
    let best : PathData = path_data c.best.result.now in
    let is : best ≡ best_path c.args.passes.told = c.best.ensures.best in
    let settled : IsSettled hand best c.in_ok-lines.lines.items = record {
      complete = subst (λ (path : PathData). IsComplete hand.search.film path) (sym is)
          (subst (λ (film : FilmData). IsComplete film (best_path c.args.passes.told)) closed.passes.together.film closed.passes.least_pass.complete);
      least = omega (arith, ap (λ (path : PathData). path.paid) is, closed.best);
      grow = all.grow;
      justified = all.justified;
      few = all.few;
      counts = counted_by c.args.passes.source (known_least c.args.passes.told) (known c.args.passes.lines) c.in_ok-lines.lines.items closed.passes.together
          c.lines_of_entries_are_counted.ensures closed.passes.search.film closed.passes.book_pass.entries all.numbers all.sets;
    } in
    where_ended c.tell.result (λ ended every. every hand closed.closed settled) c.tell.ensures.ended
