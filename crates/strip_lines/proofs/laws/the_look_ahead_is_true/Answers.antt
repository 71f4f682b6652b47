use Rattle.strip_lines.proofs.Ahead.{ahead_is_true}
use Rattle.strip_lines.proofs.laws.the_look_ahead_is_true.Goals as goal

pub returns : goal.returns
returns c = ahead_is_true
