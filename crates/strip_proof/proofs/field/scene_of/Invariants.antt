use Rattle.std.proofs.Common.{◌≡◌, ℕ, ◌<◌, false, get_or, map, []}
use Rattle.std.specs.Str.{bytes_eq}
use Rattle.strip_proof.proofs.field.scene_of.Given as goal

abbrev pub invariant-loop-scene : goal.invariant-loop-scene
invariant-loop-scene l = record {
  counted : l.number ≡ l.scene-index;
  earlier : (k : ℕ) → k < l.scene-index → bytes_eq l.name (get_or (map (λ scene. scene.name) l.inst.scenes) k []) ≡ false;
}
