use Rattle.std.proofs.Common.{refl}
use Rattle.strip_reduce.proofs.Searching.{marked_none}
use Rattle.strip_reduce.proofs.search.paired.Goals as goal

pub loop-pair-init : goal.loop-pair-init
loop-pair-init c = record { long = refl; marked = marked_none }
