-- A search over any hand, on its way from the front through the tasks.
use Rattle.std.specs.Prelude.{◌≡◌, ◌≢◌, ℕ, suc, ◌+◌, ◌<◌, ◌≤◌, ◌⊎◌, Bool, true, false, Some, None, Result, List, length, IsSome, slice_index}
use Rattle.strip_io.specs.declared.files.Memory.{Memory}
use Rattle.strip_model.specs.declared.kind.Kind.{Kind}
use Rattle.strip_model.specs.Film.{FilmData}
use Rattle.strip_film.specs.Path.{PathData}
use Rattle.strip_film.specs.Rules.{IsOpen}
use Rattle.strip_film.specs.Shown.{CursorData}
use Rattle.strip_lines.specs.Lines.{GrowTo}
use Rattle.strip_lines.specs.Parts.{lies_in}
use Rattle.strip_lines.specs.Paths.{ComesAfter}
use Rattle.strip_hand.specs.Calls.{Claims}
use Rattle.strip_hand.specs.Hand.{HandData, IsSearchOf, RecordData, no_path_yet}
use Rattle.strip_hand.specs.Search.{depth_of, search_rules}
use Rattle.strip_front.specs.Front.{FrontData, IsFrontOf, is_wanted, root_of, task_at}
use Rattle.strip_front.specs.Filled.{IsFilled, IsWhole}
use Rattle.strip_front.specs.Calls.{AreFound, IsUnfilled, count_in}
use Rattle.strip_walk.specs.declared.found.Found.{Found}
use Rattle.strip_walk.specs.Walked.{Explores, Walks}

-- the front was claimed and no other part, and nothing is enlisted in it yet
pub record HasFront (hand : HandData) : Type 0 where
  pub front : hand.records 0 ≡ Some no_path_yet
  pub others : (part : ℕ) → part ≢ 0 → hand.records part ≡ None

-- the search may start: at least one line may be made, the front was claimed and no other part, and there is nothing in
-- it
pub record MayStart (hand : HandData) (front : FrontData) : Type 0 where
  pub some_lines : 1 ≤ hand.search.nodes
  pub claimed : HasFront hand
  pub unfilled : IsUnfilled hand.search front

-- the hand knows no more lines than it made itself in the front
abbrev pub OwnsFront : HandData → Type 0
OwnsFront hand = length hand.lines ≤ count_in hand 0

-- the search was cut short: there are as many lines as there may be, and in a part that the hand has a record of, a
-- candidate of the start comes after the last path that was enlisted
pub record IsCut (hand : HandData) : Type 0 where
  pub full : length hand.lines ≡ hand.search.nodes
  pub part : ℕ
  pub entry : RecordData
  pub recorded : hand.records part ≡ Some entry
  pub path : PathData
  pub is_open : IsOpen (search_rules hand.search) path
  pub lies : lies_in (depth_of hand.search) hand.search.tasks part path ≡ true
  pub later : ComesAfter (search_rules hand.search) entry.last path
  pub some : path.rest ≢ 0
  pub below : path.paid + (search_rules hand.search).bound path.rest < hand.search.start

-- each task that is asked for, and that the hand has a record of, reaches the least cost told, by what it paid and what
-- was found of it
abbrev pub ReachFound : HandData → FrontData → List ℕ → Type 0
ReachFound hand front found =
    (task : ℕ) → task < length front.tasks → is_wanted front task ≡ true → IsSome (hand.records (suc task))
    → hand.told ≤ (task_at front task).paid + slice_index found task

-- what a hand has found of the front and of the parts that it has records of: for each task a number, which is at most
-- what is known of what remains after the task, if it is asked for. Unless the budget was spent, nothing is left out of
-- these that is below the least cost told; and it was spent only where the search was cut short, once the empty path
-- had its line
pub record HasWorked (hand : HandData) (front : FrontData) (found : List ℕ) (spent : Bool) : Type 0 where
  pub front_of : IsFrontOf (search_rules hand.search) front
  pub tasks : hand.search.tasks ≡ front.tasks
  pub filled : IsFilled hand front
  pub long : length found ≡ length front.tasks
  pub known : AreFound hand front found
  pub whole : spent ≡ false → IsWhole hand.search front hand.told
  pub reach : spent ≡ false → ReachFound hand front found
  pub root : spent ≡ true → IsSome (root_of front)
  pub cut : spent ≡ true → IsCut hand

-- a hand of a search over this film, with static bounds of this kind, has worked so
pub record HasWorkedOn (kind : Kind) (film : FilmData) (hand : HandData) (front : FrontData) (found : List ℕ)
    (spent : Bool) : Type 0 where
  pub search : IsSearchOf kind film hand
  pub worked : HasWorked hand front found spent

-- the hand found that no part is left, and has worked so
pub record HasEnded (hand : HandData) (front : FrontData) (found : List ℕ) (spent : Bool) : Type 0 where
  pub worked : HasWorked hand front found spent
  pub ended : hand.ended ≡ true

-- the hand went on, or another one took over: the search is the same, no more was told, what was known is known, and
-- each record stays
pub record GoesOn (before after : HandData) : Type 0 where
  pub search : after.search ≡ before.search
  pub told : after.told ≤ before.told
  pub grow : GrowTo before.lines after.lines
  pub records : (part : ℕ) (entry : RecordData) → before.records part ≡ Some entry → after.records part ≡ Some entry

-- one hand went on by its own calls: it counts no fewer refusals of memory
pub record WorksOn (before after : HandData) : Type 0 where
  pub goes_on : GoesOn before after
  pub no_fewer : before.refusals ≤ after.refusals

-- one hand took over from two: it went on from each, and has no records but theirs
pub record TakesOver (one other both : HandData) : Type 0 where
  pub first : GoesOn one both
  pub second : GoesOn other both
  pub few : length both.lines ≤ both.search.nodes
  pub records : (part : ℕ) → IsSome (both.records part) → IsSome (one.records part) ⊎ IsSome (other.records part)

-- another hand of the search took what one knows, and has claimed nothing
pub record IsFresh (hand fresh : HandData) : Type 0 where
  pub search : fresh.search ≡ hand.search
  pub told : fresh.told ≤ hand.told
  pub grow : GrowTo hand.lines fresh.lines
  pub none : (part : ℕ) → fresh.records part ≡ None

-- where a part begins
abbrev pub beginning : ℕ → CursorData
beginning part = record { task = part; last = None }

-- a task was walked from its path on, or memory was refused on the way
abbrev pub WalksTask : HandData → ℕ → PathData → Result Found Memory → HandData → Type 0
WalksTask before part task result after = (cursor : CursorData)
    × Explores before (beginning part) task result after cursor

-- a hand that had worked so claimed a part
abbrev pub HasClaimed : Kind → FilmData → HandData → FrontData → List ℕ → Bool → ℕ → Type 0
HasClaimed kind film hand front found spent part =
    (before : HandData) × HasWorkedOn kind film before front found spent × Claims before (Some part) hand

-- the hand did nothing but walk in a part that it had claimed, if that
abbrev pub WalksPart : HandData → ℕ → HandData → Type 0
WalksPart before part after = (path : PathData) × (cursor : CursorData)
    × Walks before (beginning part) path after cursor
