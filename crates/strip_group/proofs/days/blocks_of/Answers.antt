use Rattle.std.proofs.Common.{◌∙◌, arith, length-set, slice_index}
use Rattle.strip_group.specs.Days.{block_of}
use Rattle.strip_mask.proofs.Lists.{written}
use Rattle.strip_group.proofs.days.blocks_of.Goals as goal

pub loop-place-preserved : goal.loop-place-preserved
loop-place-preserved c = record {
  long = length-set c.loop-place.parts c.loop-place.place c.block.result.0 ∙ c.loop-place.invariant.long;
  so_far = written c.loop-place.parts c.loop-place.place c.block.result.0 (λ place. block_of (slice_index c.args.sets.now place) c.args.number)
      (omega (arith, c.loop-place-test.true, c.loop-place.invariant.long)) c.loop-place.invariant.so_far c.block.ensures.is;
}
