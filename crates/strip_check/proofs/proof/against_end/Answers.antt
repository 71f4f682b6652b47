use Rattle.std.proofs.Common.{length}
use Rattle.strip_mask.proofs.Below.{LiesBelow-full}
use Rattle.strip_check.proofs.proof.against_end.Goals as goal

pub known-requires : goal.known-requires
known-requires g c = record {
  lies = rw (c.all.ensures, c.film.ensures) (LiesBelow-full (length g.B.Bounds.film.casts));
}
