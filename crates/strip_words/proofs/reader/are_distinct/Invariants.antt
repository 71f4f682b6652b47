use Rattle.std.proofs.Common.{◌↔◌, length}
use Rattle.strip_words.specs.Words.{AreDistinct, options_in}
use Rattle.strip_words.specs.Shown.{items_data}
use Rattle.strip_words.proofs.reader.are_distinct.Given as goal

abbrev pub invariant-loop-later : goal.invariant-loop-later
invariant-loop-later l = AreDistinct (options_in (items_data l.items)) ↔ AreDistinct (options_in (items_data l.later))

abbrev pub decreases-loop-later : goal.decreases-loop-later
decreases-loop-later l = length l.later
