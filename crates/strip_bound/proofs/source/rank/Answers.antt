use Rattle.std.proofs.Common.{◌≡◌, ◌∙◌, length, refl, subst, sym, ap, arith}
use Rattle.strip_mask.proofs.Below.{LiesBelow-without, is_set_below}
use Rattle.strip_model.specs.Film.{FilmData}
use Rattle.strip_film.specs.Film.{IsFilm, LiesIn}
use Rattle.strip_film.specs.Shoot.{step_cost}
use Rattle.strip_film.proofs.Costs.{step_limit}
use Rattle.strip_bound.proofs.Small.{bound_small}
use Rattle.strip_bound.proofs.source.rank.Goals as goal

pub whole-requires : goal.whole-requires
whole-requires g c = record { lies = subst (LiesIn g.B.Bounds.film) (sym c.without.ensures) (LiesBelow-without (length g.B.Bounds.film.casts) c.args.q.0 c.args.s c.requires.lies) }

pub overflow_add-result : goal.overflow_add-result
overflow_add-result g c =
    let film : FilmData = g.B.Bounds.film in
    let is : IsFilm film = subst IsFilm c.film-film.ensures c.keeps_limits.ensures in
    let step : c.step.result ≡ step_cost film c.args.q.0 c.args.s = c.step.ensures ∙ ap (λ (f : FilmData). step_cost f c.args.q.0 c.args.s) c.film-film.ensures in
    omega (
      arith,
      step,
      step_limit film c.args.q.0 c.args.s is (is_set_below (length film.casts) c.args.q.0 (is.scene_count.1) c.requires.lies) c.requires.member,
      c.whole.ensures,
      bound_small g.B.Bounds.kind film c.without.result.0 is
          (subst (LiesIn film) (sym c.without.ensures) (LiesBelow-without (length film.casts) c.args.q.0 c.args.s c.requires.lies)),
    )
