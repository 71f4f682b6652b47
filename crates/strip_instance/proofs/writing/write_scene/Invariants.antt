use Rattle.std.proofs.Common.{◌≡◌, ◌∷◌, ◌++◌, [], map}
use Rattle.std.specs.List.{range_with_len}
use Rattle.std.specs.Fmt.{decimal}
use Rattle.std.specs.String.{string_bytes}
use Rattle.strip_instance.specs.Canonical.{mark_of}
use Rattle.strip_instance.proofs.writing.write_scene.Given as goal

abbrev pub invariant-loop-actor : goal.invariant-loop-actor
invariant-loop-actor l = map (λ field. field.now) l.fields.items ≡ (string_bytes l.scene.name ∷ decimal l.scene.days ∷ []) ++ map (mark_of l.scene.cast) (range_with_len 0 l.actor)
