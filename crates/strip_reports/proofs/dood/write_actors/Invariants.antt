use Rattle.std.proofs.Common.{◌≡◌, ◌++◌, map}
use Rattle.std.specs.List.{range_with_len}
use Rattle.strip_text.specs.Rows.{csv_text}
use Rattle.strip_reports.specs.Text.{actor_fields}
use Rattle.strip_reports.proofs.dood.write_actors.Given as goal

abbrev pub invariant-loop-actor : goal.invariant-loop-actor
invariant-loop-actor l = l.text ≡ l.fn.text ++ csv_text (map (actor_fields l.inst l.crews) (range_with_len 0 l.actor))
