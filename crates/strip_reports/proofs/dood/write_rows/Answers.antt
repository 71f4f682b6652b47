use Rattle.std.proofs.Common.{◌++◌, length, map, ap, ◌∙◌}
use Rattle.std.proofs.lemmas.Result.{on_ok_weaker}
use Rattle.std.specs.List.{range_with_len}
use Rattle.strip_text.specs.Rows.{csv_row, csv_text}
use Rattle.strip_reports.specs.Text.{actor_fields, header_fields, total_fields}
use Rattle.strip_reports.proofs.Written.{whole}
use Rattle.strip_reports.proofs.dood.write_rows.Goals as goal

pub returns : goal.returns
returns c =
    let inst = c.args.inst.now in
    let crews = c.args.crews.now in
    let header = c.in_ok-write_header.ensures ∙ ap (λ text. text ++ csv_row (header_fields (length crews))) c.requires.none in
    let actors = c.in_ok-write_actors.ensures
    ∙ ap (λ text. text ++ csv_text (map (actor_fields inst crews) (range_with_len 0 (length inst.actors)))) header in
    on_ok_weaker c.write_total.result (λ total. total ∙ ap (λ text. text ++ csv_row (total_fields inst crews)) actors ∙ whole inst crews) c.write_total.ensures
