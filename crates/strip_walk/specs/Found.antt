-- What a walk of a path asks for, and what it finds.
use Rattle.std.specs.Prelude.{◌≡◌, ◌≢◌, ℕ, ◌+◌, ◌<◌, ◌≤◌, ◌⊎◌, nat_eq, true, false, Option, Some, None, length}
use Rattle.std.specs.List.{starts_with}
use Rattle.strip_film.specs.declared.shared.Known.{Known}
use Rattle.strip_film.specs.Finish.{IsAtMostFinish}
use Rattle.strip_film.specs.Path.{PathData}
use Rattle.strip_film.specs.Rules.{IsOpen}
use Rattle.strip_film.specs.Shown.{CursorData}
use Rattle.strip_lines.specs.Lines.{ahead}
use Rattle.strip_lines.specs.Parts.{lies_in}
use Rattle.strip_lines.specs.Paths.{ComesAfter}
use Rattle.strip_hand.specs.Search.{depth_of, search_rules}
use Rattle.strip_hand.specs.Hand.{HandData, Knows}
use Rattle.strip_hand.specs.Calls.{StandsAt}
use Rattle.strip_walk.specs.declared.found.Found.{Found}

-- the walk may begin: the hand stands in a task at the cursor; the path is open, lies in the task, and comes after
-- its last one
pub record MayExplore (hand : HandData) (cursor : CursorData) (path : PathData) : Type 0 where
  pub stands : StandsAt hand cursor
  pub task : cursor.task ≢ 0
  pub is_open : IsOpen (search_rules hand.search) path
  pub lies : lies_in (depth_of hand.search) hand.search.tasks cursor.task path ≡ true
  pub later : ComesAfter (search_rules hand.search) cursor.last path

-- the last path begins with this one
abbrev pub BegunBy : PathData → Option PathData → Type 0
BegunBy path last = (end : PathData) × (last ≡ Some end) × (starts_with nat_eq end.scenes path.scenes ≡ true)

-- as many lines as there may be, though the part has another candidate behind the cursor
pub record IsCutShort (hand : HandData) (cursor : CursorData) : Type 0 where
  pub full : length hand.lines ≡ hand.search.nodes
  pub path : PathData
  pub is_open : IsOpen (search_rules hand.search) path
  pub lies : lies_in (depth_of hand.search) hand.search.tasks cursor.task path ≡ true
  pub later : ComesAfter (search_rules hand.search) cursor.last path
  pub some : path.rest ≢ 0
  pub below : path.paid + (search_rules hand.search).bound path.rest < hand.search.start

-- what is known of a line with what remains after a path and a bound
abbrev pub known_of : PathData → ℕ → ℕ → Known
known_of path line bound = record { line = line; set = path.rest; bound = bound }

-- the bound is the static one at least, or the path with it is no cheaper than the least cost last told
abbrev pub Reaches : HandData → PathData → ℕ → Type 0
Reaches hand path bound = ((search_rules hand.search).bound path.rest ≤ bound) ⊎ (hand.told ≤ path.paid + bound)

-- the same of the look-ahead
abbrev pub ReachesAhead : HandData → PathData → ℕ → Type 0
ReachesAhead hand path bound = (ahead (search_rules hand.search) path.rest ≤ bound) ⊎ (hand.told ≤ path.paid + bound)

-- what was found of what remains after a path: its bound is at most the cost of finishing, and that of a known
-- line, where it names one, or at most the static one; the path with it is no cheaper than the least cost last
-- told, unless the walk was cut short; where the path was enlisted, the bound reaches the look-ahead or that cost,
-- and its line is the last note; and it says that it was cut short only where it was
pub record IsFound (after : HandData) (cursor_after : CursorData) (path : PathData) (found : Found) : Type 0 where
  pub finish : IsAtMostFinish after.search.film path.rest found.bound
  pub line : (line : ℕ) → found.line ≡ Some line
      → Knows after.lines (known_of path line found.bound) × ((search_rules after.search).bound path.rest ≤ found.bound)
  pub none : found.line ≡ None → found.bound ≤ (search_rules after.search).bound path.rest
  pub enough : found.spent ≡ false → after.told ≤ path.paid + found.bound
  pub reaches : Reaches after path found.bound
  pub begun : BegunBy path cursor_after.last → ReachesAhead after path found.bound
      × ((line : ℕ) × (found.line ≡ Some line) × (after.note ≡ Some (known_of path line found.bound)))
  pub spent : found.spent ≡ true → IsCutShort after cursor_after
