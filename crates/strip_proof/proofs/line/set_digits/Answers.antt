use Rattle.std.proofs.Common.{replicate, refl, arith}
use Rattle.std.proofs.lemmas.List.{length-set}
use Rattle.strip_proof.proofs.Digits.{no_digits, one_digit_less, one_digit_more}
use Rattle.strip_proof.proofs.line.set_digits.Goals as goal

pub loop-place-preserved : goal.loop-place-preserved
loop-place-preserved c =
    let now = c.loop-place.invariant in (
      search (length-set, now.0),
      one_digit_less c.args.set c.loop-place.place c.loop-place.rest now.1,
      one_digit_more c.loop-place.digits c.args.set c.loop-place.place c.loop-place.rest c.hex_digit.result
          c.loop-place-test.true now.0 now.2 now.1 c.hex_digit.ensures,
    )

pub loop-place-init : goal.loop-place-init
loop-place-init c = (refl, omega arith, no_digits (replicate 16 0) c.args.set refl)
