use Rattle.std.proofs.Common.{◌≡◌, ◌++◌, map}
use Rattle.std.specs.List.{range_with_len}
use Rattle.strip_model.specs.FilmOf.{film_of}
use Rattle.strip_reports.specs.Board.{mark_at}
use Rattle.strip_reports.specs.Cells.{cell_data}
use Rattle.strip_reports.proofs.order.push_marks.Given as goal

abbrev pub invariant-loop-column : goal.invariant-loop-column
invariant-loop-column l = map cell_data l.cells.items
    ≡ map cell_data l.fn.cells.items ++ map (mark_at (film_of l.inst) l.order l.place) (range_with_len l.start l.column)
