-- The hand of worker 0: what it knows of the world, was told, and did.
use Rattle.std.specs.Prelude.{ℕ, zero, suc, ◌<◌, nat_le, Option, Some, None, length}
use Rattle.strip_hand.specs.Hand.{HandData, RecordData}
use Rattle.strip_world.specs.World.{PartData, WorldData, part_at, worker_at}
use Rattle.strip_world.specs.Sound.{IsSound}

-- the record of a part with this claimer, where that is worker 0
abbrev pub record_by : Option ℕ → PartData → Option RecordData
record_by None part = None
record_by (Some zero) part = Some (record { last = part.last; number = part.number })
record_by (Some (suc _)) part = None

abbrev pub own_record : PartData → Option RecordData
own_record part = record_by part.claimer part

-- it knows all lines, is never refused memory, and has ended where no part is left
abbrev pub hand_data : WorldData → HandData
hand_data world = record {
  search = world.search;
  told = (worker_at world 0).told;
  lines = world.lines;
  records = λ part. own_record (part_at world part);
  probe = (worker_at world 0).probe;
  note = (worker_at world 0).note;
  refusals = 0;
  ended = nat_le (length world.parts) world.next;
}

-- a sound world that has a worker 0
pub record IsOwned (world : WorldData) : Type 0 where
  pub sound : IsSound world
  pub one : 0 < length world.workers
