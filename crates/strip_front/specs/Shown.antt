-- What contracts see of a front.
use Rattle.strip_paths.specs.Shown.{paths_of}
use Rattle.strip_front.specs.declared.front.Front.{Front}
use Rattle.strip_front.specs.Front.{FrontData}

abbrev pub front_data : Front → FrontData
front_data front = record {
  depth = front.depth;
  tasks = paths_of front.tasks;
  wanted = front.wanted.items;
  paths = paths_of front.paths;
  lines = front.lines.items;
}
