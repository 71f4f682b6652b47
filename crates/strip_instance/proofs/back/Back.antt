-- The canonical text of an instance says it.
use Rattle.std.proofs.Common.{◌≡◌, ◌≢◌, ◌+◌, List, [], ◌∷◌, length, map, All, refl, sym, ap, ◌∙◌, subst, arith, Ok}
use Rattle.std.proofs.lemmas.List.{length-map}
use Rattle.std.proofs.lemmas.List.Elements.{All-append, All-map}
use Rattle.strip_text.specs.Field.{Field}
use Rattle.strip_text.specs.Rows.{Row, rows_of, IsWritable}
use Rattle.strip_text.specs.Checks.{first_fault}
use Rattle.strip_text.proofs.Back.{rows_of-written}
use Rattle.strip_text.proofs.Held.{Hold, hold-append}
use Rattle.strip_text.proofs.Unmarked.{unmarked-byte}
use Rattle.strip_model.specs.Data.{InstanceData, ActorData, SceneData, IsInstance}
use Rattle.strip_instance.specs.Parts.{Parts}
use Rattle.strip_instance.specs.Faults.{all_checks, befores_checks, parts_checks, scene_names}
use Rattle.strip_instance.specs.Text.{says, instance_of, reading_of}
use Rattle.strip_instance.specs.Canonical.{canonical_rows, canonical_text, has_own_holds, header_fields, rate_fields, hold_fields, scene_fields, body_rows, names_of, pair_fields}
use Rattle.strip_instance.proofs.back.TextNames.{HasTextNames}
use Rattle.strip_instance.proofs.back.HeldActors.{header_holds, rates_hold, holds_hold}
use Rattle.strip_instance.proofs.back.HeldScenes.{IsSound, scenes_hold, some_holds}
use Rattle.strip_instance.proofs.back.CanonicalParts.{parts_of-canonical}
use Rattle.strip_instance.proofs.back.Spelled.{all_kinds, fit_names, written_parts, scene_names-written, trimmed-rows, instance_of-written}
use Rattle.strip_instance.proofs.back.ReadableNames.{pairs-map}
use Rattle.strip_instance.proofs.back.WrittenPairs.{befores_hold}

-- what is known of each scene
sound_scenes : (inst : InstanceData) → IsInstance inst → HasTextNames inst → All (IsSound (length inst.actors)) inst.scenes
sound_scenes inst limits names k d lt = record { limits = limits.scenes k d lt; name = names.scenes k d lt }

-- the parts that are written have no fault
written_hold : (inst : InstanceData) → IsInstance inst → HasTextNames inst → Hold (parts_checks (written_parts inst))
written_hold inst limits names =
    let n = length inst.actors in
    let parts = written_parts inst in
    let wide : length (header_fields inst.actors) ≡ 2 + n = omega (arith, length-map inst.actors (λ (actor : ActorData). actor.name)) in
    let sound = sound_scenes inst limits names in
    let scenes = scenes_hold (header_fields inst.actors) parts.first n inst.scenes wide limits.scene_count.1 sound limits.scene_names in
    let some = some_holds (header_fields inst.actors) parts.first n inst.scenes wide limits.scene_count.1 sound limits.scene_names limits.scene_count.0 in
    let befores : Hold (befores_checks (scene_names parts.scenes) (parts.first + length parts.scenes) parts.befores)
    = subst (λ (list : List Field). Hold (befores_checks list (parts.first + length parts.scenes) parts.befores)) (sym (scene_names-written inst limits))
    (befores_hold (names_of inst) (pairs-map (λ (scene : SceneData). scene.name) inst.scenes limits.scene_names) (parts.first + length parts.scenes) inst.pairs
    (fit_names inst limits.pairs)) in
    hold-append _ _ (hold-append _ _
    (header_holds inst.actors limits.actor_count names.actors limits.actor_names)
    (hold-append _ _ (rates_hold inst.actors limits.actors) (holds_hold (has_own_holds inst.actors) inst.actors limits.actors)))
    (hold-append _ _ (hold-append _ _ scenes befores) some)

-- nor have the rows
rows_hold : (inst : InstanceData) → IsInstance inst → HasTextNames inst → Hold (all_checks (canonical_rows inst))
rows_hold inst limits names =
    subst (λ (parts : Parts). Hold (parts_checks parts)) (sym (parts_of-canonical inst names.scenes)) (written_hold inst limits names)

-- the rows can be written, so that they read back
canonical-writable : (inst : InstanceData) → IsWritable (canonical_rows inst)
canonical-writable inst = record {
  some = all_kinds (λ (row : Row). row ≢ []) (has_own_holds inst.actors) (header_fields inst.actors) (rate_fields inst.actors) (hold_fields inst.actors)
      (body_rows inst) some_field some_field some_field
      (All-append (λ (row : Row). row ≢ []) (map (scene_fields (length inst.actors)) inst.scenes) (map (pair_fields (names_of inst)) inst.pairs)
      (All-map (λ (row : Row). row ≢ []) (scene_fields (length inst.actors)) inst.scenes (λ k d within. some_field))
      (All-map (λ (row : Row). row ≢ []) (pair_fields (names_of inst)) inst.pairs (λ k d within. some_field)));
  unmarked = unmarked-byte 115 _ refl;
}
  where
    some_field : {field : Field} {fields : Row} → field ∷ fields ≢ []
    some_field same = cc

canonical-rows_of : (inst : InstanceData) → IsInstance inst → HasTextNames inst → rows_of (canonical_text inst) ≡ canonical_rows inst
canonical-rows_of inst limits names =
    rows_of-written (canonical_rows inst) (canonical-writable inst)
    ∙ trimmed-rows inst limits names.actors (sound_scenes inst limits names)

-- the canonical text says the instance
pub says_it : (inst : InstanceData) → IsInstance inst → HasTextNames inst → says (canonical_text inst) ≡ Ok inst
says_it inst limits names =
    ap (λ (rows : List Row). reading_of rows (first_fault (all_checks rows))) (canonical-rows_of inst limits names)
    ∙ ap (reading_of (canonical_rows inst)) (rows_hold inst limits names).none
    ∙ ap (λ (parts : Parts). Ok (instance_of parts)) (parts_of-canonical inst names.scenes) ∙ ap Ok (instance_of-written inst limits)
