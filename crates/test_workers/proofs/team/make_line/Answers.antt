use Rattle.std.proofs.Common.{◌∙◌, ap, subst, sym}
use Rattle.std.proofs.lemmas.Bool.{false≢true}
use Rattle.strip_model.specs.Film.{FilmData}
use Rattle.strip_film.specs.Film.{LiesIn}
use Rattle.strip_film.specs.Path.{IsPath, PathData}
use Rattle.strip_film.specs.Shown.{path_data}
use Rattle.strip_film.proofs.Paths.{rest_lies}
use Rattle.strip_hand.specs.Search.{SearchData}
use Rattle.strip_bound.specs.Bounds.{bound}
use Rattle.test_workers.specs.Team.{IsOfWholes}
use Rattle.test_workers.proofs.Front.{may_enlist_in}
use Rattle.test_workers.proofs.team.make_line.Goals as goal

pub whole-bound-requires : goal.whole-bound-requires
whole-bound-requires g c = record {
  lies = subst (LiesIn g.B.Bounds.film) (sym c.rest-all.ensures)
      (rest_lies g.B.Bounds.film (path_data c.start-empty.result)
      (subst (λ (f : FilmData). IsPath f (path_data c.start-empty.result)) c.film-film.ensures c.start-empty.ensures.path));
}

pub enlist-requires-clause-may : goal.enlist-requires-clause-may
enlist-requires-clause-may g c =
    may_enlist_in g.B.Bounds.kind g.B.Bounds.film 2500 c.args.part c.whole-bound.result c.begin.new.self.seat.me.0 (path_data c.start-empty.result)
    (subst (λ (s : SearchData). IsOfWholes g.B.Bounds.kind g.B.Bounds.film 2500 s) (sym c.begin.ensures.begun.stays.search) c.requires.search)
    c.requires.part.0 c.begin.ensures.begun.here
    (subst (λ (f : FilmData). IsPath f (path_data c.start-empty.result)) c.film-film.ensures c.start-empty.ensures.path)
    (ap (λ (p : PathData). p.scenes) c.start-empty.ensures.start)
    (ap (λ (p : PathData). p.paid) c.start-empty.ensures.start)
    (λ zero. false≢true (c.if-is_empty.ensures.1 (c.rest-all.ensures ∙ zero)))
    (c.whole-bound.ensures ∙ ap (bound g.B.Bounds.kind g.B.Bounds.film) c.rest-all.ensures)
    c.if-bound-ge14.false
