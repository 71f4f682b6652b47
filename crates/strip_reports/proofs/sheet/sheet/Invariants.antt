use Rattle.std.proofs.Common.{◌≡◌, ◌*◌, ◌≤◌, ◌++◌, map}
use Rattle.std.specs.List.{range_with_len}
use Rattle.strip_mask.specs.Sums.{sum_below}
use Rattle.strip_model.specs.FilmOf.{film_of}
use Rattle.strip_text.specs.Rows.{csv_row, csv_text}
use Rattle.strip_reports.specs.Days.{pay_at}
use Rattle.strip_reports.specs.Sheet.{header_row, scene_row}
use Rattle.strip_reports.proofs.sheet.sheet.Given as goal

-- the header and the rows of the places so far, and what is paid at them
abbrev pub invariant-loop-place : goal.invariant-loop-place
invariant-loop-place l = record {
  text : l.text ≡ csv_row header_row ++ csv_text (map (scene_row l.inst l.order) (range_with_len 0 l.place));
  pay : l.pay ≡ sum_below l.place (pay_at (film_of l.inst) l.order);
  small : l.pay ≤ l.place * 6336000000000;
}
