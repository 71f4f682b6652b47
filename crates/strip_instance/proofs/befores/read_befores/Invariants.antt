use Rattle.std.proofs.Common.{length}
use Rattle.strip_model.specs.Befores.{Knows}
use Rattle.strip_instance.specs.Befores.{pairs_of}
use Rattle.strip_instance.specs.Shown.{names_of, rows_from}
use Rattle.strip_instance.proofs.read.Body.{IsRead}
use Rattle.strip_instance.proofs.read.Later.{pair_row_checks}
use Rattle.strip_instance.proofs.befores.read_befores.Given as goal

abbrev pub invariant-loop-there : goal.invariant-loop-there
invariant-loop-there l = record {
  read : IsRead (pair_row_checks (names_of l.scenes)) (pairs_of (names_of l.scenes)) l.fn.rows.number (rows_from l.fn.there l.fn.row l.fn.rows.left) l.there l.rows.number
      (rows_from l.there l.row l.rows.left) l.pairs.items;
  known : Knows l.befores l.pairs.items;
}

abbrev pub decreases-loop-there : goal.decreases-loop-there
decreases-loop-there l = length (rows_from l.there l.row l.rows.left)
