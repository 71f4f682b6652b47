use Rattle.std.proofs.Common.{◌≡◌, [], ◌∷◌, map}
use Rattle.strip_mask.specs.Set.{numbers_below}
use Rattle.strip_reduce.proofs.start.single_scenes.Given as goal

abbrev pub invariant-loop-scene : goal.invariant-loop-scene
invariant-loop-scene l = map (λ list. list.items) l.members.items ≡ map (λ scene. scene ∷ []) (numbers_below l.scene)
