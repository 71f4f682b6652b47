-- What a walk leaves.
use Rattle.std.specs.Prelude.{◌≡◌, ◌≢◌, ℕ, ◌≤◌, ◌⊎◌, Result, Ok, Err, length}
use Rattle.strip_io.specs.declared.files.Memory.{Memory}
use Rattle.strip_io.specs.Counts.{Rose}
use Rattle.strip_film.specs.Path.{PathData}
use Rattle.strip_film.specs.Shown.{CursorData}
use Rattle.strip_lines.specs.Lines.{GrowTo}
use Rattle.strip_hand.specs.Hand.{HandData}
use Rattle.strip_hand.specs.Calls.{StandsAt}
use Rattle.strip_walk.specs.declared.found.Found.{Found}
use Rattle.strip_walk.specs.Found.{BegunBy, IsFound}

-- what stays whatever was met: the search, and the records of other parts; the least cost told falls, and lines and
-- refusals grow; the hand stands at the cursor, whose last path is the one it had or begins with the path that was
-- walked; and where no line could be made any more, the cursor didn't move
pub record Walks (before : HandData) (cursor : CursorData) (path : PathData) (after : HandData) (cursor_after : CursorData) : Type 0 where
  pub search : after.search ≡ before.search
  pub ended : after.ended ≡ before.ended
  pub told : after.told ≤ before.told
  pub grow : GrowTo before.lines after.lines
  pub refusals : before.refusals ≤ after.refusals
  pub task : cursor_after.task ≡ cursor.task
  pub stands : StandsAt after cursor_after
  pub others : (other : ℕ) → other ≢ cursor.task → after.records other ≡ before.records other
  pub last : (cursor_after.last ≡ cursor.last) ⊎ BegunBy path cursor_after.last
  pub full : length before.lines ≡ before.search.nodes → cursor_after ≡ cursor

-- a walk of a path: what was found, or that memory was refused
abbrev pub Explores : HandData → CursorData → PathData → Result Found Memory → HandData → CursorData → Type 0
Explores before cursor path (Ok found) after cursor_after =
    Walks before cursor path after cursor_after × IsFound after cursor_after path found
Explores before cursor path (Err _) after cursor_after =
    Walks before cursor path after cursor_after × Rose before.refusals after.refusals
