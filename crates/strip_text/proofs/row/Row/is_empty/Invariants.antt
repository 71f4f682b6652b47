use Rattle.std.proofs.Common.{◌≡◌, ◌==◌, true, length, take}
use Rattle.std.specs.List.{list_all}
use Rattle.strip_text.proofs.row.Row.is_empty.Given as goal

abbrev pub invariant-loop-place : goal.invariant-loop-place
invariant-loop-place l = list_all (λ field. length field == 0) (take l.place l.self) ≡ true
