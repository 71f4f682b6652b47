-- What contracts see of paths, cursors, running states and turns.
use Rattle.std.specs.Prelude.{ℕ, take, Option, slice_index}
use Rattle.std.specs.Option.{option_map}
use Rattle.strip_film.specs.declared.path.Path.{Path}
use Rattle.strip_film.specs.declared.cursor.Cursor.{Cursor}
use Rattle.strip_film.specs.declared.running.Running.{Running}
use Rattle.strip_film.specs.declared.turns.Turns.{Turns}
use Rattle.strip_film.specs.Path.{PathData}
use Rattle.strip_film.specs.Running.{RunningData}
use Rattle.strip_film.specs.Turns.{TurnsData}

-- a path: its scenes in shooting order, what remains, and what was paid
abbrev pub path_data : Path → PathData
path_data path = record { scenes = take path.len path.list; rest = path.rest.0; paid = path.paid }

pub record CursorData : Type 0 where
  pub task : ℕ
  pub last : Option PathData

-- a cursor: its task, and its last path, if it has one
abbrev pub cursor_data : Cursor → CursorData
cursor_data cursor = record { task = cursor.task; last = option_map path_data cursor.last }

-- a running state: its path, and its numbers
abbrev pub running_data : Running → RunningData
running_data running = record {
  path = path_data running.path;
  done = running.done;
  left = running.left;
  on = running.on.0;
  before = running.before;
}

-- turns: the scenes that wait, and how many had a lesser rank than each
abbrev pub turns_data : Turns → TurnsData
turns_data turns = record { left = turns.left.0; ranks = slice_index turns.places }
