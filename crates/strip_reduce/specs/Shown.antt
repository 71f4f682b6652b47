-- What contracts see of a reduction.
use Rattle.std.specs.Prelude.{map}
use Rattle.strip_reduce.specs.declared.reduced.Reduced.{Reduced}
use Rattle.strip_reduce.specs.State.{State}

-- a reduction: its film, the scenes that were joined in each class, and what is set apart
abbrev pub reduced_data : Reduced → State
reduced_data reduced = record { film = reduced.film; members = map (λ class. class.items) reduced.classes.items; apart = reduced.apart }
