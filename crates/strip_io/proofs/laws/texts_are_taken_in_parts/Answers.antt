use Rattle.strip_io.proofs.Pieces.{front_early, front_late, took_more}
use Rattle.strip_io.proofs.laws.texts_are_taken_in_parts.Goals as goal

pub returns : goal.returns
returns c = record { whole = took_more; early = front_early; late = front_late }
