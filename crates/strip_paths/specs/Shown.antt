-- What contracts see of paths by the sets that they leave.
use Rattle.std.specs.Prelude.{List, map}
use Rattle.strip_film.specs.Path.{PathData}
use Rattle.strip_film.specs.Shown.{path_data}
use Rattle.strip_paths.specs.declared.by_set.PathsBySet.{PathsBySet}

abbrev pub paths_of : PathsBySet → List PathData
paths_of by_set = map path_data by_set.paths.items
