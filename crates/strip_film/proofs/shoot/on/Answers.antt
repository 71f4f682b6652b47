use Rattle.std.proofs.Common.{length}
use Rattle.strip_film.specs.Film.{all_scenes}
use Rattle.strip_mask.proofs.Below.{LiesBelow-full, LiesBelow-minus}
use Rattle.strip_film.proofs.shoot.on.Goals as goal

pub cast_of-requires-2 : goal.cast_of-requires-2
cast_of-requires-2 c = rw (c.minus.ensures, c.all.ensures) (LiesBelow-minus (length c.args.film.now.casts) (all_scenes c.args.film.now) c.args.q.0 (LiesBelow-full (length c.args.film.now.casts)))
