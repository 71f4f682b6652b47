use Rattle.std.proofs.Common.{subst, ap, ◌∙◌, arith}
use Rattle.strip_model.specs.Film.{FilmData}
use Rattle.strip_film.specs.Film.{IsFilm}
use Rattle.strip_film.specs.Path.{IsPath}
use Rattle.strip_film.specs.Shown.{path_data}
use Rattle.strip_film.proofs.Paths.{rest_lies}
use Rattle.strip_bound.specs.Bounds.{bound}
use Rattle.strip_hand.specs.Hand.{HandData}
use Rattle.strip_front.proofs.Reaches.{reach_fits}
use Rattle.strip_front.proofs.down.try_path.Goals as goal

pub whole-bound-requires : goal.whole-bound-requires
whole-bound-requires g c = record {
  lies =
      rw c.rest.ensures (rest_lies g.B.Bounds.film (path_data c.args.path.now)
      (subst (λ (f : FilmData). IsPath f (path_data c.args.path.now)) c.requires.search.0 c.requires.may.is_open.0));
}

pub overflow_add-paid : goal.overflow_add-paid
overflow_add-paid g c =
    omega (
      arith,
      reach_fits g.B.Bounds.kind g.B.Bounds.film (path_data c.args.path.now) c.paid.result c.whole-bound.result
          (subst IsFilm (ap (λ (h : HandData). h.search.film) c.look-least.ensures.told.only ∙ c.requires.search.0) c.keeps_limits.ensures.film)
          (subst (λ (f : FilmData). IsPath f (path_data c.args.path.now)) c.requires.search.0 c.requires.may.is_open.0)
          c.paid.ensures
          (c.whole-bound.ensures ∙ ap (bound g.B.Bounds.kind g.B.Bounds.film) c.rest.ensures),
    )
