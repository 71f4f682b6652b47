use Rattle.strip_io.proofs.Streams.{cursor_gives}
use Rattle.strip_io.proofs.laws.cursors_give_from_their_place.Goals as goal

pub returns : goal.returns
returns g c = cursor_gives
