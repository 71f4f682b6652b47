use Rattle.std.proofs.Common.{◌≡◌, length, map}
use Rattle.strip_model.specs.Instance.{scene_data}
use Rattle.strip_instance.specs.Parts.{befores_part, scenes_part}
use Rattle.strip_instance.specs.Faults.{row_checks}
use Rattle.strip_instance.specs.Shown.{rows_from}
use Rattle.strip_instance.proofs.read.Body.{IsRead}
use Rattle.strip_instance.proofs.read.SceneRows.{scenes_of}
use Rattle.strip_instance.proofs.scenes.read_scenes.Given as goal

abbrev pub invariant-loop-there : goal.invariant-loop-there
invariant-loop-there l = record {
  read : IsRead (row_checks l.header) scenes_of l.fn.rows.number (scenes_part (rows_from l.fn.there l.fn.row l.fn.rows.left)) l.there l.rows.number
      (scenes_part (rows_from l.there l.row l.rows.left)) (map scene_data l.scenes.items);
  behind : befores_part (rows_from l.there l.row l.rows.left) ≡ befores_part (rows_from l.fn.there l.fn.row l.fn.rows.left);
}

abbrev pub decreases-loop-there : goal.decreases-loop-there
decreases-loop-there l = length (rows_from l.there l.row l.rows.left)
