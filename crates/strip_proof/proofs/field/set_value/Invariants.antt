use Rattle.std.proofs.Common.{◌≡◌, ◌<◌, ◌^◌, take}
use Rattle.strip_proof.specs.Field.{set_of}
use Rattle.strip_proof.proofs.field.set_value.Given as goal

abbrev pub invariant-loop-digit : goal.invariant-loop-digit
invariant-loop-digit l = record {
  value : l.set ≡ set_of (take l.digit-index l.digits);
  small : l.set < 16 ^ l.digit-index;
}
