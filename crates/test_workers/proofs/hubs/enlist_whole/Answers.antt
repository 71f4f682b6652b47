use Rattle.std.proofs.Common.{sym, subst}
use Rattle.strip_model.specs.Film.{FilmData}
use Rattle.strip_film.specs.Film.{LiesIn}
use Rattle.strip_film.specs.Path.{IsPath}
use Rattle.strip_film.specs.Shown.{path_data}
use Rattle.strip_film.proofs.Paths.{rest_lies}
use Rattle.test_workers.proofs.hubs.enlist_whole.Goals as goal

pub whole-bound-requires : goal.whole-bound-requires
whole-bound-requires g c = record {
  lies = subst (LiesIn g.B.Bounds.film) (sym c.rest-all.ensures)
      (rest_lies g.B.Bounds.film (path_data c.start-empty.result)
      (subst (λ (f : FilmData). IsPath f (path_data c.start-empty.result)) c.film-film.ensures c.start-empty.ensures.path));
}
