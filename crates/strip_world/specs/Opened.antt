-- The world that a search opens with.
use Rattle.std.specs.Prelude.{suc, ◌/◌, None, List, [], length, replicate}
use Rattle.strip_model.specs.declared.kind.Kind.{Kind}
use Rattle.strip_model.specs.Film.{FilmData}
use Rattle.strip_film.specs.Path.{PathData}
use Rattle.strip_hand.specs.declared.limits.Limits.{Limits}
use Rattle.strip_hand.specs.Search.{SearchData}
use Rattle.strip_world.specs.World.{WorldData, no_part, WorkerData}

-- what a search goes by that starts with this path
abbrev pub search_of : FilmData → Kind → PathData → List PathData → Limits → SearchData
search_of film kind start tasks limits = record {
  film = film;
  kind = kind;
  nodes = limits.nodes;
  start = start.paid;
  tasks = tasks;
}

-- a worker that was told the start path and did nothing
abbrev pub idle_worker : PathData → WorkerData
idle_worker start = record { told = start.paid; best = start; probe = None; note = None }

-- nobody has done anything: the start path is each worker's best, and the least cost is what it pays
abbrev pub opened : FilmData → Kind → PathData → List PathData → Limits → WorldData
opened film kind start tasks limits = record {
  search = search_of film kind start tasks limits;
  buckets = limits.entries / 64;
  least = start.paid;
  lines = [];
  stripes = replicate 16 (replicate (limits.entries / 64) []);
  next = 0;
  parts = replicate (suc (length tasks)) no_part;
  workers = replicate limits.workers (idle_worker start);
}
