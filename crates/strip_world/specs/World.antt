-- The world of a search: one state, on which all its workers act.
use Rattle.std.specs.Prelude.{ℕ, Option, None, List, [], slice_index_or}
use Rattle.strip_film.specs.declared.shared.Known.{Known}
use Rattle.strip_film.specs.declared.shared.Line.{Line}
use Rattle.strip_film.specs.Path.{PathData}
use Rattle.strip_table.specs.Home.{stripe_of}
use Rattle.strip_hand.specs.Hand.{ProbeData}
use Rattle.strip_hand.specs.Search.{SearchData}

-- part 0 is the front, part 1 that of the first task, and so on: who claimed it, its last path, and how many lines
-- it made
pub record PartData : Type 0 where
  pub claimer : Option ℕ
  pub last : Option PathData
  pub number : ℕ

-- a worker: the least cost that it was last told, the best path that it offered, its last probe and its last note
pub record WorkerData : Type 0 where
  pub told : ℕ
  pub best : PathData
  pub probe : Option ProbeData
  pub note : Option Known

-- the least cost so far, the lines, the stripes of the table with so many buckets each, the next part to be
-- claimed, the parts and the workers
pub record WorldData : Type 0 where
  pub search : SearchData
  pub buckets : ℕ
  pub least : ℕ
  pub lines : List Line
  pub stripes : List (List (List Known))
  pub next : ℕ
  pub parts : List PartData
  pub workers : List WorkerData

abbrev pub no_part : PartData
no_part = record { claimer = None; last = None; number = 0 }

abbrev pub part_at : WorldData → ℕ → PartData
part_at world part = slice_index_or world.parts part no_part

abbrev pub no_worker : WorkerData
no_worker = record { told = 0; best = record { scenes = []; rest = 0; paid = 0 }; probe = None; note = None }

abbrev pub worker_at : WorldData → ℕ → WorkerData
worker_at world who = slice_index_or world.workers who no_worker

-- the stripe that a set belongs to
abbrev pub stripe_at : WorldData → ℕ → List (List Known)
stripe_at world stripe = slice_index_or world.stripes stripe []

abbrev pub home_stripe : WorldData → ℕ → List (List Known)
home_stripe world set = stripe_at world (stripe_of set)
