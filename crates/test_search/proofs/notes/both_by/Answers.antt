use Rattle.std.proofs.Common.{subst}
use Rattle.strip_model.specs.Film.{FilmData}
use Rattle.strip_film.specs.Path.{IsComplete}
use Rattle.strip_film.specs.Shown.{path_data}
use Rattle.test_search.proofs.notes.both_by.Goals as goal

pub with_notes-requires : goal.with_notes-requires
with_notes-requires g c = record {
  start = subst (λ (f : FilmData). IsComplete f (path_data c.improve-start.result)) c.requires.film c.improve-start.ensures.complete;
}

pub without_notes-requires : goal.without_notes-requires
without_notes-requires g c = record {
  start = subst (λ (f : FilmData). IsComplete f (path_data c.improve-start.result)) c.requires.film c.improve-start.ensures.complete;
}
