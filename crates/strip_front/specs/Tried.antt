-- What trying a path of the front does.
use Rattle.std.specs.Prelude.{◌≡◌, ◌≢◌, ◌↔◌, ◌+◌, ◌<◌, ◌≤◌, ℕ, Bool, true, false, Option, Some, None, Result, Ok, Err, IsSome, length}
use Rattle.strip_io.specs.declared.files.Memory.{Memory}
use Rattle.strip_film.specs.Path.{PathData}
use Rattle.strip_film.specs.Rules.{IsOpen}
use Rattle.strip_film.specs.Shown.{CursorData}
use Rattle.strip_lines.specs.Parts.{lies_in}
use Rattle.strip_lines.specs.Paths.{ComesAfter}
use Rattle.strip_hand.specs.Calls.{IsSpent, MakesLine, Refuses, StandsAt}
use Rattle.strip_hand.specs.Hand.{HandData}
use Rattle.strip_hand.specs.Search.{SearchData, depth_of, search_rules}
use Rattle.strip_front.specs.declared.down.Tried.{Tried}
use Rattle.strip_front.specs.declared.down.Tried.TheVariants.{Line, Passed, Spent}
use Rattle.strip_front.specs.Calls.{IsCutShort}
use Rattle.strip_front.specs.Filled.{HasLines, IsWhole}
use Rattle.strip_front.specs.Front.{FrontData, IsFrontOf, line_of, path_at, root_of}

-- the hand claimed the front, and the cursor stands there
pub record StandsInFront (hand : HandData) (cursor : CursorData) : Type 0 where
  pub stands : StandsAt hand cursor
  pub task : cursor.task ≡ 0

-- the path may be tried: an open one of the cursor's part that comes after its last one, with something remaining
pub record MayTry (search : SearchData) (cursor : CursorData) (path : PathData) : Type 0 where
  pub is_open : IsOpen (search_rules search) path
  pub lies : lies_in (depth_of search) search.tasks cursor.task path ≡ true
  pub later : ComesAfter (search_rules search) cursor.last path
  pub some : path.rest ≢ 0

-- the line that trying a path made, if it made one; and whether the budget was spent
abbrev pub line_from : Tried → Option ℕ
line_from Passed = None
line_from (Line line) = Some line
line_from Spent = None

abbrev pub has_spent : Tried → Bool
has_spent Passed = false
has_spent (Line line) = false
has_spent Spent = true

-- what a path reaches, by what it paid and the static bound of what remains
abbrev pub reach : HandData → PathData → ℕ
reach hand path = path.paid + (search_rules hand.search).bound path.rest

-- the path reaches the least cost that was told; or it is below, and a line was made of it, or there are as many as
-- there may be
abbrev pub TriesFrom : HandData → CursorData → PathData → Result Tried Memory → HandData → CursorData → Type 0
TriesFrom looked cursor path (Ok Passed) after cursor_after = (after ≡ looked) × (cursor_after ≡ cursor)
    × (looked.told ≤ reach looked path)
TriesFrom looked cursor path (Ok (Line line)) after cursor_after =
    MakesLine looked cursor path ((search_rules looked.search).bound path.rest) line after cursor_after
TriesFrom looked cursor path (Ok Spent) after cursor_after =
    IsSpent looked looked.search.nodes after × (cursor_after ≡ cursor) × (reach looked path < looked.told)
TriesFrom looked cursor path (Err _) after cursor_after = Refuses looked after × (cursor_after ≡ cursor)

-- the hand looked, and was told no more than before
pub record Tries (before : HandData) (cursor : CursorData) (path : PathData) (result : Result Tried Memory)
    (after : HandData) (cursor_after : CursorData) : Type 0 where
  pub no_more : after.told ≤ before.told
  pub tried : TriesFrom (record before { told = after.told }) cursor path result after cursor_after

-- the front's paths were tried: the hand knows the lines of those that it enlisted; nothing is left out, or the budget
-- was spent; and the empty path has a line just where some path was enlisted
pub record IsEnlisted (hand : HandData) (cursor : CursorData) (front : FrontData) (spent : Bool) : Type 0 where
  pub lines : HasLines hand front
  pub whole : spent ≡ false → IsWhole hand.search front hand.told
  pub cut : spent ≡ true → IsCutShort hand cursor
  pub root : IsSome (root_of front) ↔ IsSome cursor.last

-- the empty path was enlisted, and those that stand before a place were tried: the cursor's last path is one of these;
-- the hand knows the lines of those that were enlisted; those that weren't reach the least cost, or the budget was
-- spent; and the others have no lines yet
pub record AreTried (hand : HandData) (cursor : CursorData) (front : FrontData) (place : ℕ)
    (spent : Bool) : Type 0 where
  pub root : IsSome (root_of front)
  pub lines : HasLines hand front
  pub last : (path : PathData) × (cursor.last ≡ Some path) × (before : ℕ) × (before < place)
      × (path.scenes ≡ (path_at front before).scenes)
  pub past : spent ≡ false → (before : ℕ) → before < place → line_of front before ≡ None
      → hand.told ≤ reach hand (path_at front before)
  pub later : (other : ℕ) → place ≤ other → line_of front other ≡ None
  pub cut : spent ≡ true → IsCutShort hand cursor

-- the empty path of the search's front was enlisted, and no other path was tried yet
pub record IsBegun (hand : HandData) (cursor : CursorData) (front : FrontData) : Type 0 where
  pub tasks : hand.search.tasks ≡ front.tasks
  pub front_of : IsFrontOf (search_rules hand.search) front
  pub stands : StandsInFront hand cursor
  pub tried : AreTried hand cursor front 1 false

-- the front with other lines, as many as it had, and otherwise as it was
pub record ListsLines (before after : FrontData) : Type 0 where
  pub only : after ≡ record before { lines = after.lines }
  pub count : length after.lines ≡ length before.lines
