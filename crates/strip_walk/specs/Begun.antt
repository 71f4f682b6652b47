-- How the walk of a path begins and ends, before and after its children.
use Rattle.std.specs.Prelude.{◌≡◌, ℕ, ◌+◌, ◌<◌, ◌≤◌, ◌⊎◌, true, false, Some, None, Bool, Result, Ok, Err, length}
use Rattle.strip_mask.specs.Set.{has}
use Rattle.strip_io.specs.declared.files.Memory.{Memory}
use Rattle.strip_io.specs.Counts.{Rose}
use Rattle.strip_film.specs.declared.shared.Known.{Known}
use Rattle.strip_film.specs.declared.shared.Probe.{Probe}
use Rattle.strip_film.specs.declared.shared.Probe.TheVariants.{Hit}
use Rattle.strip_film.specs.Path.{PathData}
use Rattle.strip_film.specs.Shown.{CursorData}
use Rattle.strip_rule.specs.Rule.{open_firsts}
use Rattle.strip_lines.specs.Lines.{GrowTo, line_at}
use Rattle.strip_hand.specs.Search.{SearchData, search_rules}
use Rattle.strip_hand.specs.Hand.{HandData, IsHand, Knows, Lets}
use Rattle.strip_hand.specs.Calls.{IsFound as IsTold}
use Rattle.strip_walk.specs.declared.found.Begun.{Begun}
use Rattle.strip_walk.specs.declared.found.Begun.TheVariants.{Answered, Enlisted}
use Rattle.strip_walk.specs.declared.found.Found.{Found}
use Rattle.strip_walk.specs.declared.found.Met.{Met}
use Rattle.strip_walk.specs.declared.found.Met.TheVariants.{Cut, Through}
use Rattle.strip_walk.specs.declared.found.Opened.{Opened}
use Rattle.strip_walk.specs.declared.found.Passed.{Passed}
use Rattle.strip_walk.specs.Found.{IsFound, known_of}
use Rattle.strip_walk.specs.Walked.{Walks}

-- the scene may be shot next
abbrev pub IsFirst : SearchData → PathData → ℕ → Type 0
IsFirst search path scene = has (open_firsts search.film path.rest) scene ≡ true

-- no part was claimed and no path enlisted; the least cost told falls, and lines and refusals grow
pub record StaysInPart (before after : HandData) : Type 0 where
  pub search : after.search ≡ before.search
  pub ended : after.ended ≡ before.ended
  pub told : after.told ≤ before.told
  pub grow : GrowTo before.lines after.lines
  pub refusals : before.refusals ≤ after.refusals
  pub records : after.records ≡ before.records

-- an answer without a walk: the path with its bound is no cheaper than the least cost told
pub record IsCut (after : HandData) (path : PathData) (found : Found) : Type 0 where
  pub line : (line : ℕ) → found.line ≡ Some line
      → Knows after.lines (known_of path line found.bound) × ((search_rules after.search).bound path.rest ≤ found.bound)
  pub none : found.line ≡ None → found.bound ≤ (search_rules after.search).bound path.rest
  pub reached : after.told ≤ path.paid + found.bound
  pub spent : found.spent ≡ false

-- neither the static bound nor the table rules the path out
pub record IsThrough (after : HandData) (path : PathData) (passed : Passed) : Type 0 where
  pub told : after.told ≡ passed.told
  pub static_bound : passed.bound ≡ (search_rules after.search).bound path.rest
  pub below : path.paid + passed.bound < passed.told
  pub asked : after.probe ≡ Some (record { set = path.rest; answer = passed.answer })
  pub lets : Lets passed.answer path passed.told
  pub true_answer : IsTold after path.rest passed.answer

-- a probe of a set: the answer is the last probe, and true
pub record Asks (before : HandData) (set : ℕ) (answer : Probe) (after : HandData) : Type 0 where
  pub stays : StaysInPart before after
  pub told : after.told ≡ before.told
  pub asked : after.probe ≡ Some (record { set = set; answer = answer })
  pub true_answer : IsTold after set answer

-- the table's answer rules the path out where its bound takes all of the room that is left below the least cost
abbrev pub IsWeighed : Passed → ℕ → Met → Type 0
IsWeighed passed room (Cut found) =
    (known : Known) × (passed.answer ≡ Hit known) × (room ≤ known.bound)
    × (found ≡ record { bound = known.bound; line = Some known.line; spent = false })
IsWeighed passed room (Through same) = (same ≡ passed) × ((known : Known) → passed.answer ≡ Hit known
    → known.bound < room)

abbrev pub Meets : HandData → PathData → Met → HandData → Type 0
Meets before path (Cut found) after = StaysInPart before after × IsCut after path found
Meets before path (Through passed) after = StaysInPart before after × IsThrough after path passed

-- the path was enlisted: it is the cursor's last, and the line has what remains after it
pub record IsOpened (after : HandData) (cursor_after : CursorData) (path : PathData) (opened : Opened) : Type 0 where
  pub told : after.told ≡ opened.told
  pub static_bound : opened.bound ≡ (search_rules after.search).bound path.rest
  pub there : opened.line < length after.lines
  pub set : (line_at after.lines opened.line).set ≡ path.rest
  pub last : cursor_after.last ≡ Some path

abbrev pub BeginsWalk : HandData → CursorData → PathData → Result Begun Memory → HandData → CursorData → Type 0
BeginsWalk before cursor path (Ok (Answered found)) after cursor_after =
    Walks before cursor path after cursor_after × IsFound after cursor_after path found
BeginsWalk before cursor path (Ok (Enlisted opened)) after cursor_after =
    Walks before cursor path after cursor_after × IsOpened after cursor_after path opened
BeginsWalk before cursor path (Err _) after cursor_after =
    Walks before cursor path after cursor_after × Rose before.refusals after.refusals

-- the greater of the static bound and that of a line that was found, which is named where it is greater
abbrev pub IsBest : Passed → Found → Type 0
IsBest passed found =
    (((known : Known) → passed.answer ≡ Hit known → known.bound ≤ passed.bound)
    × (found ≡ record { bound = passed.bound; line = None; spent = true }))
    ⊎ ((known : Known) × (passed.answer ≡ Hit known) × (passed.bound < known.bound)
    × (found ≡ record { bound = known.bound; line = Some known.line; spent = true }))

-- a complete path was offered; and the hand keeps what every hand does
pub record Offers (before : HandData) (path : PathData) (found : Found) (after : HandData) : Type 0 where
  pub stays : StaysInPart before after
  pub nothing : found ≡ record { bound = 0; line = None; spent = false }
  pub offered : after.told ≤ path.paid
  pub limits : IsHand after

-- the line has the bound, and was noted with it; and the hand keeps what every hand does
abbrev pub Closes : HandData → Known → Bool → Result Found Memory → HandData → Type 0
Closes before known spent (Ok found) after =
    StaysInPart before after × (found ≡ record { bound = known.bound; line = Some known.line; spent = spent })
    × Knows after.lines known × (after.note ≡ Some known) × IsHand after
Closes before known spent (Err _) after = StaysInPart before after × Rose before.refusals after.refusals
