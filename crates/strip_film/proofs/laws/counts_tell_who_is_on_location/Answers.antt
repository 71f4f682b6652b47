use Rattle.strip_film.proofs.Started.{counts_tell}
use Rattle.strip_film.proofs.laws.counts_tell_who_is_on_location.Goals as goal

pub returns : goal.returns
returns c = counts_tell
