use Rattle.std.proofs.Common.{◌≡◌, ◌++◌, take}
use Rattle.std.specs.List.{flat_map}
use Rattle.strip_text.specs.Rows.{csv_row}
use Rattle.strip_instance.specs.Shown.{names_of as scene_names}
use Rattle.strip_instance.specs.Canonical.{pair_fields}
use Rattle.strip_instance.proofs.writing.write_pairs.Given as goal

abbrev pub invariant-loop-pair : goal.invariant-loop-pair
invariant-loop-pair l = l.text ≡ l.fn.text ++ flat_map (λ pair. csv_row (pair_fields (scene_names l.scenes) pair)) (take l.pair-index l.pairs)
