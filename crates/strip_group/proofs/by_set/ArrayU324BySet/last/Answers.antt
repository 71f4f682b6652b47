use Rattle.std.proofs.Common.{ap, sym, slice_index}
use Rattle.strip_sets.proofs.FourSets.{full_two}
use Rattle.strip_group.proofs.by_set.ArrayU324BySet.last.Goals as goal

pub returns : goal.returns
returns c = ap (slice_index c.args.self.now) (sym full_two)
