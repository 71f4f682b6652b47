use Rattle.strip_layers.proofs.Answered.{answers_same}
use Rattle.strip_layers.proofs.laws.answers_are_the_same.Goals as goal

pub returns : goal.returns
returns c = λ kind film asks one other first second. answers_same kind film asks one other first second
