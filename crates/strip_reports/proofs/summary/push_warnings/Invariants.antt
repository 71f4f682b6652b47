use Rattle.std.proofs.Common.{◌≡◌, ◌++◌, filter, take}
use Rattle.std.specs.List.{flat_map}
use Rattle.strip_reports.specs.Board.{breaks, warning}
use Rattle.strip_reports.proofs.summary.push_warnings.Given as goal

abbrev pub invariant-loop-pair : goal.invariant-loop-pair
invariant-loop-pair l = l.page.items ≡ l.fn.page.items ++ flat_map (warning l.inst) (filter (breaks l.order) (take l.pair-index l.pair-items))
