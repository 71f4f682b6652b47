use Rattle.std.proofs.Common.{◌≡◌, map, take}
use Rattle.std.specs.String.{string_bytes}
use Rattle.strip_text.specs.Rows.{field_of}
use Rattle.strip_instance.specs.Shown.{names_of}
use Rattle.strip_instance.proofs.befores.names_along.Given as goal

abbrev pub invariant-loop-number : goal.invariant-loop-number
invariant-loop-number l = map string_bytes l.names.items ≡ map (field_of (names_of l.scenes)) (take l.number-index l.numbers)
