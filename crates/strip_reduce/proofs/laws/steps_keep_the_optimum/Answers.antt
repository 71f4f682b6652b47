use Rattle.strip_reduce.proofs.Turn.{optimum_kept, turn_keeps, turn_lessens, turn_limits, turn_of}
use Rattle.strip_reduce.proofs.laws.steps_keep_the_optimum.Goals as goal

pub returns : goal.returns
returns c = record {
  limits = λ before after is taken. turn_limits before after is (turn_of before after taken);
  fewer = λ before after taken. turn_lessens before after (turn_of before after taken);
  optimum = λ before after is taken. optimum_kept before after (turn_keeps before after is (turn_of before after taken));
}
