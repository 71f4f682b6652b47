use Rattle.std.proofs.Common.{length}
use Rattle.stripboard_cases.proofs.words.words_of.Given as goal

abbrev pub decreases-loop-words : goal.decreases-loop-words
decreases-loop-words l = length l.rest
