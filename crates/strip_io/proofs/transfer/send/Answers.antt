use Rattle.std.proofs.Common.{◌<◌, ◌++◌, ◌∙◌, take, length, arith, rules}
use Rattle.strip_io.proofs.Pieces.{took_more, front_taken, parts_more, on_err}
use Rattle.strip_io.proofs.transfer.send.Goals as goal

pub returns-in_err-count-clause-front : goal.returns-in_err-count-clause-front
returns-in_err-count-clause-front g c =
    let parts = c.loop-rest.invariant.parts in
    let some : 0 < length c.loop-rest.rest.now = search rules in
    on_err _ (front_taken _ _ parts.0 c.loop-rest.rest.now _ parts.1 some (c.in_err-count.ensures.failed ∙ parts.2))

pub loop-rest-preserved : goal.loop-rest-preserved
loop-rest-preserved g c =
    let parts = c.loop-rest.invariant.parts in
    let n = c.in_ok-count.count in
    record {
      unfailed = c.in_ok-count.ensures.unfailed ∙ c.loop-rest.invariant.unfailed;
      parts = (
        parts.0 ++ take n c.loop-rest.rest.now,
        parts_more parts.0 c.loop-rest.rest.now _ n _ parts.1 (omega arith),
        took_more _ _ _ _ _ parts.2 c.in_ok-count.ensures.taken,
      );
    }
