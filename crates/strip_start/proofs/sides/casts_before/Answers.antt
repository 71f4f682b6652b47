use Rattle.std.proofs.Common.{◌<◌, length, ◌∙◌, sym, take, arith}
use Rattle.std.proofs.Math.ListN.{length-set}
use Rattle.strip_mask.proofs.Lists.{written}
use Rattle.strip_start.specs.Sides.{cast_along}
use Rattle.strip_start.proofs.Along.{cast_along-more}
use Rattle.strip_start.proofs.sides.casts_before.Goals as goal

pub loop-place-preserved : goal.loop-place-preserved
loop-place-preserved c =
    let within : c.loop-place.place < length c.loop-place.before = omega (arith, c.loop-place-test.true, c.requires.few, c.loop-place.invariant.size) in
    record {
      size = length-set c.loop-place.before c.loop-place.place c.loop-place.cast.0 ∙ c.loop-place.invariant.size;
      cast = rw (c.union-cast.ensures, c.loop-place.invariant.cast, c.casts-casts.ensures)
          (sym (cast_along-more c.args.film.now c.args.scenes.now c.loop-place.place c.loop-place-test.true));
      each = written c.loop-place.before c.loop-place.place c.loop-place.cast.0 (λ place. cast_along c.args.film.now (take place c.args.scenes.now)) within
          c.loop-place.invariant.each c.loop-place.invariant.cast;
    }
