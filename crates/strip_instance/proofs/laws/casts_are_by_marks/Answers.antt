use Rattle.strip_instance.proofs.Casts.{has-cast_of_marks}
use Rattle.strip_instance.proofs.laws.casts_are_by_marks.Goals as goal

pub returns : goal.returns
returns c = has-cast_of_marks
