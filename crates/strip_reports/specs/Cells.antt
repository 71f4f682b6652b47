-- What contracts see of a cell.
use Rattle.strip_reports.specs.declared.html.Cell.{Cell}
use Rattle.strip_reports.specs.declared.html.Cell.TheVariants as cell
use Rattle.strip_reports.specs.Html.{CellData, Word, Name, Upright, Number, Works, Held, Empty}

abbrev pub cell_data : Cell → CellData
cell_data (cell.Word words) = Word words.now
cell_data (cell.Name name) = Name name.now
cell_data (cell.Upright name) = Upright name.now
cell_data (cell.Number number) = Number number
cell_data cell.Works = Works
cell_data cell.Held = Held
cell_data cell.Empty = Empty
