use Rattle.std.proofs.Common.{length, subst, sym}
use Rattle.strip_mask.proofs.Below.{LiesBelow-without}
use Rattle.strip_film.specs.Film.{IsFilm, LiesIn}
use Rattle.strip_film.proofs.Located.{location_lies}
use Rattle.strip_check.proofs.justify.step_reaches.Goals as goal

pub step_with-step-requires-clause-actors : goal.step_with-step-requires-clause-actors
step_with-step-requires-clause-actors g c =
    rw (c.film-film.ensures, c.requires.on) (location_lies g.B.Bounds.film c.args.q.0 (subst IsFilm c.film-film.ensures c.keeps_limits.ensures))

pub is_known-requires : goal.is_known-requires
is_known-requires g c = record {
  lies = subst (LiesIn g.B.Bounds.film) (sym c.without.ensures) (LiesBelow-without (length g.B.Bounds.film.casts) c.args.q.0 c.args.s c.requires.lies);
}
