use Rattle.std.proofs.Common.{get_or, length, arith}
use Rattle.strip_proof.proofs.read.SetDigits.{digit_at, digit_below, has_room, one_more_digit, stays_small}
use Rattle.strip_proof.proofs.field.set_value.Goals as goal

pub overflow_mul-set : goal.overflow_mul-set
overflow_mul-set c = omega (arith, has_room c.loop-digit.set c.loop-digit.digit-index (length c.args.digits.now) c.loop-digit.invariant.small c.loop-digit-test.true c.requires.short)

pub overflow_add-set : goal.overflow_add-set
overflow_add-set c =
    let low = digit_below (get_or c.args.digits.now c.loop-digit.digit-index 0) (digit_at c.args.digits.now c.loop-digit.digit-index c.requires.digits c.loop-digit-test.true) in
    omega (arith, c.hex_value.ensures, low, has_room c.loop-digit.set c.loop-digit.digit-index (length c.args.digits.now) c.loop-digit.invariant.small c.loop-digit-test.true c.requires.short)

pub loop-digit-preserved : goal.loop-digit-preserved
loop-digit-preserved c =
    let low = digit_below (get_or c.args.digits.now c.loop-digit.digit-index 0) (digit_at c.args.digits.now c.loop-digit.digit-index c.requires.digits c.loop-digit-test.true) in
    record {
      value = one_more_digit c.args.digits.now c.loop-digit.digit-index c.loop-digit.set c.hex_value.result c.loop-digit-test.true
          c.loop-digit.invariant.value c.hex_value.ensures;
      small = stays_small c.loop-digit.set c.loop-digit.digit-index c.hex_value.result c.loop-digit.invariant.small (omega (arith, c.hex_value.ensures, low));
    }
