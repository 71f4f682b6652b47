-- What contracts see of a search by layers.
use Rattle.strip_film.specs.Shown.{path_data}
use Rattle.strip_layers.specs.declared.layered.Layered.{Layered}
use Rattle.strip_layers.specs.declared.state.Search.{Search}
use Rattle.strip_layers.specs.Layered.{LayeredData}
use Rattle.strip_layers.specs.Search.{SearchData}

abbrev pub search_data : Search → SearchData
search_data search = record {
  lines = search.sheet.lines.items;
  best = path_data search.best;
  goal = search.goal;
  nodes = search.nodes;
  spent = search.spent;
}

abbrev pub layered_data : Layered → LayeredData
layered_data layered = record {
  lines = layered.lines.items;
  bound = layered.bound;
  best = path_data layered.best;
  is_spent = layered.is_spent;
}
