use Rattle.std.proofs.Common.{length}
use Rattle.strip_world.proofs.paths.+is_earlier.Given as goal

abbrev pub decreases-is_earlier : goal.decreases-is_earlier
decreases-is_earlier g l = length l.first.now
