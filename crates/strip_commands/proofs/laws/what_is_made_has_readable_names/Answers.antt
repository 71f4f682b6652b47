use Rattle.strip_commands.proofs.Readable.{made_readable}
use Rattle.strip_commands.proofs.laws.what_is_made_has_readable_names.Goals as goal

pub returns : goal.returns
returns c = made_readable
