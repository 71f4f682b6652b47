use Rattle.std.proofs.Common.{map, sym, subst}
use Rattle.strip_film.specs.Film.{IsFilm}
use Rattle.strip_film.specs.Shown.{path_data}
use Rattle.strip_model.specs.declared.kind.Kind.{Kind}
use Rattle.strip_model.specs.Film.{FilmData}
use Rattle.strip_lines.specs.Lines.{rules_of}
use Rattle.strip_front.specs.Front.{IsFrontOf}
use Rattle.strip_front.specs.Layers.{AreTasksOf}
use Rattle.strip_front.specs.Shown.{front_data}
use Rattle.test_search.proofs.notes.without_notes.Goals as goal

pub new-requires-clause-tasks : goal.new-requires-clause-tasks
new-requires-clause-tasks g c =
    let front : IsFrontOf (rules_of c.kind.result c.film-film.result.now) (front_data c.in_ok-front.front)
    = subst (λ (k : Kind). IsFrontOf (rules_of k c.film-film.result.now) (front_data c.in_ok-front.front)) (sym c.kind.ensures)
    (subst (λ (f : FilmData). IsFrontOf (rules_of g.B.Bounds.kind f) (front_data c.in_ok-front.front)) (sym c.film-film.ensures)
    c.in_ok-front.ensures.empty.front_of) in
    (c.tasks_are_starts.ensures
    (record {
      film = c.film-film.result.now;
      kind = c.kind.result;
      nodes = 10000;
      start = (path_data c.args.start.now).paid;
      tasks = map path_data c.tasks.result.now;
    })
    (front_data c.in_ok-front.front).depth c.keeps_limits.ensures front.depth
    (subst (AreTasksOf (rules_of c.kind.result c.film-film.result.now) (front_data c.in_ok-front.front).depth) (sym c.tasks.ensures) front.tasks)).0
