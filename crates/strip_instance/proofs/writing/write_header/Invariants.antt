use Rattle.std.proofs.Common.{◌≡◌, ◌∷◌, ◌++◌, [], take, map, codes}
use Rattle.std.specs.String.{string_bytes}
use Rattle.strip_instance.proofs.writing.write_header.Given as goal

abbrev pub invariant-loop-actor : goal.invariant-loop-actor
invariant-loop-actor l = map (λ field. field.now) l.fields.items ≡ (codes "scene" ∷ codes "days" ∷ []) ++ map (λ actor. string_bytes actor.name) (take l.actor-index l.actors)
