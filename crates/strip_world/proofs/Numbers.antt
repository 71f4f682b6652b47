-- A part's number of lines is at most that of all lines.
use Rattle.std.proofs.Common.{ℕ, suc, ◌<◌, ◌≤◌, length, arith}
use Rattle.strip_mask.proofs.Sums.{le_sum_below}
use Rattle.strip_world.specs.World.{WorldData, part_at}
use Rattle.strip_world.specs.Sound.{IsSound}

pub number_le_lines : (world : WorldData) (part : ℕ) → IsSound world → part < length world.parts → (part_at world part).number ≤ length world.lines
number_le_lines world part sound lt =
    omega (arith, sound.counts.total, le_sum_below (suc (length world.search.tasks)) part (λ i. (part_at world i).number) (omega (arith, lt, sound.part_count)))
