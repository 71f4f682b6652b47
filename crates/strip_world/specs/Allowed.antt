-- Which events may come in a world.
use Rattle.std.specs.Prelude.{◌≡◌, ◌≢◌, ℕ, ◌+◌, ◌<◌, true, Some, length, ⊤}
use Rattle.strip_film.specs.Film.{LiesIn}
use Rattle.strip_film.specs.Path.{PathData, IsComplete}
use Rattle.strip_film.specs.Rules.{IsOpen}
use Rattle.strip_film.specs.Shown.{path_data}
use Rattle.strip_bound.specs.Bounds.{bound}
use Rattle.strip_lines.specs.Lines.{IsJustified, line_at}
use Rattle.strip_lines.specs.Paths.{ComesAfter}
use Rattle.strip_lines.specs.Parts.{lies_in}
use Rattle.strip_world.specs.declared.event.Event.{Event}
use Rattle.strip_world.specs.declared.event.Event.TheVariants.{Look, Offer, Claim, Enlist, Raise, Probe as Ask, Note}
use Rattle.strip_hand.specs.Hand.{Knows, LetsThrough}
use Rattle.strip_hand.specs.Search.{depth_of, search_rules}
use Rattle.strip_world.specs.World.{WorldData, part_at, worker_at}

-- the worker claimed the part, and the path is an open one of the part that comes after its last, with something
-- remaining, and which neither the static bound nor, outside the front, the last probe rules out
pub record WorkerMayEnlist (world : WorldData) (who part : ℕ) (path : PathData) : Type 0 where
  pub known : part < length world.parts
  pub claimed : (part_at world part).claimer ≡ Some who
  pub is_open : IsOpen (search_rules world.search) path
  pub lies : lies_in (depth_of world.search) world.search.tasks part path ≡ true
  pub later : ComesAfter (search_rules world.search) (part_at world part).last path
  pub some : path.rest ≢ 0
  pub below : path.paid + bound world.search.kind world.search.film path.rest < (worker_at world who).told
  pub through : part ≢ 0 → LetsThrough (worker_at world who).probe path (worker_at world who).told

-- the line is there, and the bound is justified for its set by the lines
pub record WorkerMayRaise (world : WorldData) (line bound : ℕ) : Type 0 where
  pub known : line < length world.lines
  pub justified : IsJustified (search_rules world.search) world.lines (record { set = (line_at world.lines line).set; bound = bound })

-- what an event asks for besides that its worker is one of the world's
abbrev pub IsFitting : WorldData → Event → Type 0
IsFitting world (Look who) = ⊤
IsFitting world (Offer who path) = IsComplete world.search.film (path_data path)
IsFitting world (Claim who) = ⊤
IsFitting world (Enlist who task path) = WorkerMayEnlist world who task (path_data path)
IsFitting world (Raise who line bound) = WorkerMayRaise world line bound
IsFitting world (Ask who set) = LiesIn world.search.film set
IsFitting world (Note who known) = Knows world.lines known

abbrev pub actor_of : Event → ℕ
actor_of (Look who) = who
actor_of (Offer who path) = who
actor_of (Claim who) = who
actor_of (Enlist who task path) = who
actor_of (Raise who line bound) = who
actor_of (Ask who set) = who
actor_of (Note who known) = who

-- the event may come now
pub record IsAllowed (world : WorldData) (event : Event) : Type 0 where
  pub worker : actor_of event < length world.workers
  pub fitting : IsFitting world event
