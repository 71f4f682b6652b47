use Rattle.strip_commands.proofs.Limits.{made_is}
use Rattle.strip_commands.proofs.laws.what_is_made_keeps_the_limits.Goals as goal

pub returns : goal.returns
returns c = made_is
