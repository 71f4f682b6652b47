use Rattle.std.proofs.Common.{◌≡◌, ◌++◌, codes, map, take}
use Rattle.std.specs.List.{flat_map}
use Rattle.strip_reports.specs.Html.{cell_text}
use Rattle.strip_reports.specs.Cells.{cell_data}
use Rattle.strip_reports.proofs.html.push_row.Given as goal

abbrev pub invariant-loop-cell : goal.invariant-loop-cell
invariant-loop-cell l = l.page.items ≡ l.fn.page.items ++ codes "<tr>" ++ flat_map cell_text (map cell_data (take l.cell-index l.cells))
