use Rattle.std.proofs.Common.{◌∙◌, ◌++◌, [], ◌∷◌, ap, sym}
use Rattle.strip_solve.proofs.Rows.{numbers_more, numbers_none}
use Rattle.strip_solve.proofs.own.numbers.Goals as goal

pub loop-number-init : goal.loop-number-init
loop-number-init c = record { so_far = c.new-numbers.ensures.items ∙ numbers_none }

pub loop-number-preserved : goal.loop-number-preserved
loop-number-preserved c = record {
  so_far = c.in_ok-push.ensures.items ∙ ap (λ xs. xs ++ c.loop-number.number ∷ []) c.loop-number.invariant.so_far
      ∙ sym (numbers_more c.loop-number.number);
}
