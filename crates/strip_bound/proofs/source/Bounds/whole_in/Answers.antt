use Rattle.std.proofs.Common.{inl, inr, subst, arith}
use Rattle.strip_film.specs.Film.{IsFilm}
use Rattle.strip_bound.proofs.Small.{bound_small}
use Rattle.strip_bound.proofs.source.Bounds.whole_in.Goals as goal

pub returns : goal.returns
returns g c = elim c.reach.ensures.reaches [
  | inl far ↦ omega (arith, far, c.reach.ensures.most, bound_small g.Self.Bounds.kind g.Self.Bounds.film c.args.q.0 (subst IsFilm c.film.ensures c.keeps_limits.ensures) c.requires.lies)
  | inr whole ↦ whole
]
