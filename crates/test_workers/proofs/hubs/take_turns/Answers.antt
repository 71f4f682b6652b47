use Rattle.std.proofs.Common.{length, sym, ap, ◌∙◌, subst}
use Rattle.strip_mask.proofs.Below.{LiesBelow-full}
use Rattle.strip_model.specs.Film.{FilmData}
use Rattle.strip_film.specs.Film.{LiesIn, all_scenes}
use Rattle.strip_hand.specs.Search.{SearchData}
use Rattle.test_workers.proofs.hubs.take_turns.Goals as goal

pub probe-requires-clause-lies : goal.probe-requires-clause-lies
probe-requires-clause-lies g c =
    let film : FilmData = g.B.Bounds.film in
    subst (λ (f : FilmData). LiesIn f c.all.result.0) (sym (ap (λ (s : SearchData). s.film) c.requires.same ∙ c.requires.goes_by.0))
    (subst (LiesIn film) (sym (c.all.ensures ∙ ap all_scenes c.film.ensures)) (LiesBelow-full (length film.casts)))
