use Rattle.std.proofs.Common.{◌≡◌, ◌++◌, not, slice_index}
use Rattle.strip_mask.specs.Set.{members}
use Rattle.strip_mask.specs.Iter.{rest_of}
use Rattle.strip_rule.specs.Rule.{is_part}
use Rattle.strip_rule.proofs.Left.{left_by}
use Rattle.strip_rule.proofs.rule.holders.Given as goal

-- those so far that hold all on location; these and those to come are the set
abbrev pub invariant-loop-scene : goal.invariant-loop-scene
invariant-loop-scene l = record {
  held : l.holders.0 ≡ left_by (λ scene. not (is_part l.fn.on.0 (slice_index l.film.casts scene))) l.yielded;
  turns : l.yielded ++ rest_of l.scene-iterator ≡ members l.fn.firsts.0;
}
