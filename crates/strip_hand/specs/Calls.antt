-- What each call of a hand asks for, and what it makes of the hand.
use Rattle.std.specs.Prelude.{◌≡◌, ◌≢◌, ⊤, ℕ, suc, ◌+◌, ◌<◌, ◌≤◌, true, Option, Some, None, Result, Ok, Err, length}
use Rattle.strip_model.specs.Pay.{IsOptimum}
use Rattle.strip_film.specs.declared.shared.Known.{Known}
use Rattle.strip_film.specs.declared.shared.Listed.{Listed}
use Rattle.strip_film.specs.declared.shared.Listed.TheVariants.{Line, Spent}
use Rattle.strip_film.specs.declared.shared.Noted.{Noted}
use Rattle.strip_film.specs.declared.shared.Probe.{Probe}
use Rattle.strip_film.specs.declared.shared.Probe.TheVariants.{Hit, Miss}
use Rattle.strip_film.specs.Path.{PathData}
use Rattle.strip_film.specs.Rules.{IsOpen}
use Rattle.strip_film.specs.Shown.{CursorData}
use Rattle.strip_io.specs.declared.files.Memory.{Memory}
use Rattle.strip_io.specs.Counts.{Rose}
use Rattle.strip_lines.specs.Lines.{GrowTo, IsJustified, line_at}
use Rattle.strip_lines.specs.Parts.{lies_in}
use Rattle.strip_lines.specs.Paths.{ComesAfter}
use Rattle.strip_hand.specs.Hand.{HandData, Knows, LetsThrough, no_path_yet}
use Rattle.strip_hand.specs.Search.{depth_of, search_rules}

-- look: the least cost is told, which is no more than what was told before, and no less than the optimum
pub record Tells (before : HandData) (least : ℕ) (after : HandData) : Type 0 where
  pub only : after ≡ record before { told = least }
  pub no_more : least ≤ before.told
  pub no_less : (pay : ℕ) → IsOptimum before.search.film pay → pay ≤ least

-- claim: a part of which there was no record, and in which nothing was enlisted yet; or none is left
abbrev pub Claims : HandData → Option ℕ → HandData → Type 0
Claims before None after = after ≡ record before { ended = true }
Claims before (Some part) after =
    (after ≡ record before { records = after.records; ended = after.ended })
    × (part < suc (length before.search.tasks)) × (before.records part ≡ None) × (after.records part ≡ Some no_path_yet)
    × ((other : ℕ) → other ≢ part → after.records other ≡ before.records other)

-- memory was refused: lines may have been learnt meanwhile, the count of refusals rose, and nothing else changed
pub record Refuses (before after : HandData) : Type 0 where
  pub only : after ≡ record before { lines = after.lines; refusals = after.refusals }
  pub grow : GrowTo before.lines after.lines
  pub no_fewer : before.refusals ≤ after.refusals
  pub rose : Rose before.refusals after.refusals

-- the cursor stands where the hand is in its part: the part was claimed, and the cursor's last path is the last
-- that was enlisted there
abbrev pub StandsAt : HandData → CursorData → Type 0
StandsAt hand cursor = (number : ℕ) × (hand.records cursor.task ≡ Some (record { last = cursor.last; number = number }))

-- the path may be enlisted: an open path of the part that comes after its last one, with something remaining, which
-- neither the static bound nor, outside the front, the last probe rules out
pub record MayEnlist (hand : HandData) (cursor : CursorData) (path : PathData) (bound : ℕ) : Type 0 where
  pub stands : StandsAt hand cursor
  pub is_open : IsOpen (search_rules hand.search) path
  pub lies : lies_in (depth_of hand.search) hand.search.tasks cursor.task path ≡ true
  pub later : ComesAfter (search_rules hand.search) cursor.last path
  pub some : path.rest ≢ 0
  pub static_bound : bound ≡ (search_rules hand.search).bound path.rest
  pub below : path.paid + bound < hand.told
  pub through : cursor.task ≢ 0 → LetsThrough hand.probe path hand.told

-- a line is made: it wasn't known before, and now it is, with what remains and this bound; the path is the last of
-- its part
pub record MakesLine (before : HandData) (cursor : CursorData) (path : PathData) (bound line : ℕ) (after : HandData)
    (cursor_after : CursorData) : Type 0 where
  pub only : after ≡ record before { lines = after.lines; records = after.records }
  pub grow : GrowTo before.lines after.lines
  pub fresh : length before.lines ≤ line
  pub there : line < length after.lines
  pub made : line_at after.lines line ≡ record { set = path.rest; bound = bound }
  pub counted : (number : ℕ) × (before.records cursor.task ≡ Some (record { last = cursor.last; number = number }))
      × (after.records cursor.task ≡ Some (record { last = Some path; number = number + 1 }))
  pub others : (other : ℕ) → other ≢ cursor.task → after.records other ≡ before.records other
  pub moved : cursor_after ≡ record { task = cursor.task; last = Some path }

-- there are as many lines as there may be
pub record IsSpent (before : HandData) (count : ℕ) (after : HandData) : Type 0 where
  pub only : after ≡ record before { lines = after.lines }
  pub grow : GrowTo before.lines after.lines
  pub counted : length after.lines ≡ count
  pub full : count ≡ before.search.nodes

-- enlist
abbrev pub Enlists : HandData → CursorData → PathData → ℕ → Result Listed Memory → HandData → CursorData → Type 0
Enlists before cursor path bound (Ok
    (Line line)) after cursor_after = MakesLine before cursor path bound line after cursor_after
Enlists before cursor path bound (Ok (Spent count)) after cursor_after = IsSpent before count after
    × (cursor_after ≡ cursor)
Enlists before cursor path bound (Err _) after cursor_after = Refuses before after × (cursor_after ≡ cursor)

-- raise asks for a known line, and a bound that what is known justifies for its set
pub record MayRaise (hand : HandData) (line bound : ℕ) : Type 0 where
  pub there : line < length hand.lines
  pub justified : IsJustified (search_rules hand.search) hand.lines (record { set = (line_at hand.lines line).set; bound = bound })

-- raise: the line is known with at least this bound
abbrev pub Raises : HandData → ℕ → ℕ → Result ⊤ Memory → HandData → Type 0
Raises before line bound (Ok _) after =
    (after ≡ record before { lines = after.lines }) × GrowTo before.lines after.lines × (bound ≤ (line_at after.lines line).bound)
Raises before line bound (Err _) after = Refuses before after

-- the answer is true of the set: a line that is found is known
abbrev pub IsFound : HandData → ℕ → Probe → Type 0
IsFound hand set Miss = ⊤
IsFound hand set (Hit known) = (known.set ≡ set) × Knows hand.lines known

-- with this probe as the last one
abbrev pub having_probed : HandData → ℕ → Probe → HandData
having_probed hand set answer = record hand { probe = Some (record { set = set; answer = answer }) }

-- probe: the set and the answer are the last probe, where want of memory counts as a miss
abbrev pub Probes : HandData → ℕ → Result Probe Memory → HandData → Type 0
Probes before set (Ok answer) after =
    (after ≡ record (having_probed before set answer) { lines = after.lines }) × GrowTo before.lines after.lines × IsFound after set answer
Probes before set (Err _) after = Refuses (having_probed before set Miss) after

-- note: what was handed in is the last note
abbrev pub Notes : HandData → Known → Result Noted Memory → HandData → Type 0
Notes before known (Ok _) after =
    (after ≡ record before { lines = after.lines; note = Some known }) × GrowTo before.lines after.lines
Notes before known (Err _) after = Refuses (record before { note = Some known }) after
