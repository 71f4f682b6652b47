-- What contracts see of parts and workers.
use Rattle.std.specs.Option.{option_map}
use Rattle.strip_film.specs.Shown.{path_data}
use Rattle.strip_world.specs.declared.state.Part.{Part}
use Rattle.strip_world.specs.declared.state.Asked.{Asked}
use Rattle.strip_world.specs.declared.state.Worker.{Worker}
use Rattle.strip_hand.specs.Hand.{ProbeData}
use Rattle.strip_world.specs.World.{PartData, WorkerData}

abbrev pub part_data : Part → PartData
part_data part = record { claimer = part.claimer; last = option_map path_data part.last; number = part.number }

abbrev pub probe_data : Asked → ProbeData
probe_data asked = record { set = asked.set; answer = asked.answer }

abbrev pub worker_data : Worker → WorkerData
worker_data worker = record {
  told = worker.told;
  best = path_data worker.best;
  probe = option_map probe_data worker.asked;
  note = worker.note;
}
