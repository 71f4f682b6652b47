-- What going down and closing up ask for and promise.
use Rattle.std.specs.Prelude.{◌≡◌, ◌≢◌, ◌↔◌, ℕ, ◌+◌, ◌<◌, ◌≤◌, Bool, true, false, Some, None, List, length, slice_index, IsSome}
use Rattle.std.specs.Option.{option_map, unwrap_or}
use Rattle.strip_film.specs.Film.{all_scenes}
use Rattle.strip_film.specs.Path.{PathData}
use Rattle.strip_film.specs.Rules.{IsOpen, Rules}
use Rattle.strip_film.specs.Shown.{CursorData}
use Rattle.strip_bound.specs.Bounds.{bound}
use Rattle.strip_lines.specs.Lines.{GrowTo, ahead, known, line_at}
use Rattle.strip_lines.specs.Parts.{lies_in}
use Rattle.strip_lines.specs.Paths.{ComesAfter}
use Rattle.strip_hand.specs.Calls.{StandsAt}
use Rattle.strip_hand.specs.Hand.{HandData, RecordData}
use Rattle.strip_hand.specs.Search.{SearchData, depth_of, search_rules}
use Rattle.strip_front.specs.Filled.{IsFilled, IsWhole}
use Rattle.strip_front.specs.Front.{FrontData, IsEmptyFront, IsFrontOf, is_wanted, root_of, task_at}

-- the front of the search, with nothing in it: its tasks are those of the search
pub record IsUnfilled (search : SearchData) (front : FrontData) : Type 0 where
  pub tasks : search.tasks ≡ front.tasks
  pub empty : IsEmptyFront (search_rules search) front

-- the front may be gone down: nothing is in it; and the hand has claimed it, where the cursor stands, with nothing
-- enlisted before
pub record MayGoDown (hand : HandData) (cursor : CursorData) (front : FrontData) : Type 0 where
  pub unfilled : IsUnfilled hand.search front
  pub stands : StandsAt hand cursor
  pub begins : cursor ≡ record { task = 0; last = None }

-- the front was gone down by the hand: what the search goes by, its last probe and note, whether it ended and its
-- records of the tasks stay, and it knows what it knew; and the cursor still stands in the front, at the last path that
-- the hand enlisted there
pub record GoesDown (before after : HandData) (cursor_after : CursorData) : Type 0 where
  pub only : after ≡ record before { told = after.told; lines = after.lines; records = after.records; refusals = after.refusals }
  pub no_more : after.told ≤ before.told
  pub grow : GrowTo before.lines after.lines
  pub no_fewer : before.refusals ≤ after.refusals
  pub others : (part : ℕ) → part ≢ 0 → after.records part ≡ before.records part
  pub task : cursor_after.task ≡ 0
  pub stands : StandsAt after cursor_after

-- the budget was spent: there are as many lines as there may be, and an open path of the cursor's part that comes after
-- its last one, with something remaining, is below what the search started with
pub record IsCutShort (hand : HandData) (cursor : CursorData) : Type 0 where
  pub full : length hand.lines ≡ hand.search.nodes
  pub later : (path : PathData) × IsOpen (search_rules hand.search) path
      × (lies_in (depth_of hand.search) hand.search.tasks cursor.task path ≡ true)
      × ComesAfter (search_rules hand.search) cursor.last path × (path.rest ≢ 0)
      × (path.paid + (search_rules hand.search).bound path.rest < hand.search.start)

-- the front is one of a search by these rules as before, with the same tasks
pub record KeepsTasks (rules : Rules) (before after : FrontData) : Type 0 where
  pub front_of : IsFrontOf rules after
  pub tasks : after.tasks ≡ before.tasks

-- how many paths the hand enlisted in a part
abbrev pub count_in : HandData → ℕ → ℕ
count_in hand part = unwrap_or (option_map (λ (entry : RecordData). entry.number) (hand.records part)) 0

-- the front was gone down, up to the cursor, and whether the budget was spent
pub record IsDown (hand : HandData) (cursor : CursorData) (front : FrontData) (is_spent : Bool) : Type 0 where
  -- the empty path has a line just where some path was enlisted
  pub root : IsSome (root_of front) ↔ IsSome cursor.last
  -- the hand knows the front's lines, and just the tasks that follow from these are asked for
  pub filled : IsFilled hand front
  -- unless the budget was spent, nothing is left out that is below the least cost told
  pub whole : is_spent ≡ false → IsWhole hand.search front hand.told
  -- it is told that the budget was spent only where it was
  pub spent : is_spent ≡ true → IsCutShort hand cursor
  -- and then the empty path has a line, where at least one may be made and the hand knows none but those of its own
  -- paths here
  pub own : is_spent ≡ true → 1 ≤ hand.search.nodes → length hand.lines ≤ count_in hand 0 → IsSome (root_of front)

-- nothing changed but that lines may have been learnt or raised, and memory refused
pub record Learns (before after : HandData) : Type 0 where
  pub only : after ≡ record before { lines = after.lines; refusals = after.refusals }
  pub grow : GrowTo before.lines after.lines
  pub no_fewer : before.refusals ≤ after.refusals

-- the numbers that were found of the tasks that are asked for: each is at most what is known of what remains after the
-- task
abbrev pub AreFound : HandData → FrontData → List ℕ → Type 0
AreFound hand front found =
    (task : ℕ) → task < length front.tasks → is_wanted front task ≡ true
    → slice_index found task ≤ known (search_rules hand.search) hand.lines (task_at front task).rest

-- each task that is asked for reaches the value, by what it paid and the number that was found of it
abbrev pub AllReach : FrontData → List ℕ → ℕ → Type 0
AllReach front found value =
    (task : ℕ) → task < length front.tasks → is_wanted front task ≡ true
    → value ≤ (task_at front task).paid + slice_index found task

-- the front was gone down, and each of its tasks has a number: where the task is asked for, it is at most what is known
-- of what remains after it
pub record IsWalked (hand : HandData) (front : FrontData) (found : List ℕ) : Type 0 where
  pub front_of : IsFrontOf (search_rules hand.search) front
  pub filled : IsFilled hand front
  pub count : length found ≡ length front.tasks
  pub known_of : AreFound hand front found

-- the front was closed up, once its tasks had these numbers, and came to this number itself
pub record IsClosedUp (hand : HandData) (front : FrontData) (found : List ℕ) (number : ℕ) : Type 0 where
  -- it is at most what is known of all scenes, and at least their static bound
  pub known_of : number ≤ known (search_rules hand.search) hand.lines (all_scenes hand.search.film)
  pub static_bound : bound hand.search.kind hand.search.film (all_scenes hand.search.film) ≤ number
  -- where the empty path has a line, it is at most the line's bound, and at least the look-ahead
  pub root : (line : ℕ) → root_of front ≡ Some line
      → (number ≤ (line_at hand.lines line).bound)
      × (ahead (search_rules hand.search) (all_scenes hand.search.film) ≤ number)
  -- it reaches the least cost told where the front leaves out nothing below that, and each task that is asked for
  -- reaches it
  pub reaches : IsWhole hand.search front hand.told → AllReach front found hand.told → hand.told ≤ number
