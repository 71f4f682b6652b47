use Rattle.std.proofs.Common.{length}
use Rattle.strip_mask.proofs.Below.{LiesBelow-full}
use Rattle.strip_solve.proofs.options.useful_tries.Goals as goal

pub whole-requires : goal.whole-requires
whole-requires g c = record {
  lies = rw (c.all.ensures, c.film-film.ensures) (LiesBelow-full (length g.B.Bounds.film.casts));
}
