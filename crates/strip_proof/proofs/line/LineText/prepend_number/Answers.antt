use Rattle.std.proofs.Common.{arith, ap, length}
use Rattle.std.proofs.lemmas.List.{length-drop}
use Rattle.std.proofs.lemmas.Fmt.{length-decimal-le}
use Rattle.strip_proof.proofs.line.LineText.prepend_number.Goals as goal

pub write_digits-self-inside-requires : goal.write_digits-self-inside-requires
write_digits-self-inside-requires c =
    let few = length-decimal-le 20 c.args.number (omega arith) (omega (arith, c.ranges.number.fits)) c.ranges.number.fits in
    let size = ap length c.self.view_is in
    let left = length-drop c.self.inside.from c.self.inside.buffer in
    (omega (arith, few, size, left, c.self.told, c.requires), omega (arith, c.self.invariant, c.self.told))

pub returns-clause-short : goal.returns-clause-short
returns-clause-short c = length-decimal-le 20 c.args.number (omega arith) (omega (arith, c.ranges.number.fits)) c.ranges.number.fits
