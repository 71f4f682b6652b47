-- What the iterator of a set has left.
use Rattle.std.specs.Prelude.{ℕ, List}
use Rattle.strip_mask.specs.Set.{members}
use Rattle.strip_mask.specs.declared.mask.MaskIter.{MaskIter}

-- the members still to come, rising
abbrev pub rest_of : MaskIter → List ℕ
rest_of it = members it.rest
