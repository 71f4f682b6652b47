use Rattle.std.proofs.Common.{◌≡◌, ◌-◌, ◌/◌, ◌^◌, length, drop}
use Rattle.strip_proof.specs.Rows.{hex_digits}
use Rattle.strip_proof.proofs.line.set_digits.Given as goal

abbrev pub invariant-loop-place : goal.invariant-loop-place
invariant-loop-place l = (length l.digits ≡ 16) × (l.rest ≡ l.set / 16 ^ l.place) × (drop (16 - l.place) l.digits ≡ hex_digits l.place l.set)
