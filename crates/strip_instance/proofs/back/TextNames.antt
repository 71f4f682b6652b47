-- Names that a text can say, as text.
use Rattle.std.proofs.Common.{◌≡◌, Bool, true, List, get_or, map, All, subst, String}
use Rattle.std.specs.declared.alloc.Global.{Global}
use Rattle.std.specs.Str.{is_utf8}
use Rattle.std.specs.String.{string_bytes}
use Rattle.std.proofs.lemmas.Str.{is_utf8-from_IsUtf8, IsUtf8-string_bytes}
use Rattle.std.proofs.lemmas.List.Elements.{All-map}
use Rattle.strip_model.specs.declared.scene.Scene.{Scene}
use Rattle.strip_model.specs.declared.scene.Actor.{Actor}
use Rattle.strip_model.specs.Data.{SceneData, ActorData, InstanceData}
use Rattle.strip_model.specs.Instance.{scene_data, actor_data}
use Rattle.strip_text.specs.Field.{Field}
use Rattle.strip_instance.specs.Field.{is_name, is_scene_name}
use Rattle.strip_instance.specs.Text.{IsReadableName, HasReadableNames}

-- such a name, which is UTF-8 too
pub record IsTextName (test : Field → Bool) (name : Field) : Type 0 where
  pub text : is_utf8 name ≡ true
  pub readable : IsReadableName test name

pub record HasTextNames (inst : InstanceData) : Type 0 where
  pub scenes : All (λ scene. IsTextName is_scene_name scene.name) inst.scenes
  pub actors : All (λ actor. IsTextName is_name actor.name) inst.actors

-- names are kept as text
text_of : (name : String Global) → is_utf8 (string_bytes name) ≡ true
text_of name = is_utf8-from_IsUtf8 (string_bytes name) (IsUtf8-string_bytes name)

scenes_are_text : (scenes : List Scene) → All (λ (scene : SceneData). is_utf8 scene.name ≡ true) (map scene_data scenes)
scenes_are_text scenes =
    All-map (λ (scene : SceneData). is_utf8 scene.name ≡ true) scene_data scenes (λ k d within. text_of (get_or scenes k d).name)

actors_are_text : (actors : List Actor) → All (λ (actor : ActorData). is_utf8 actor.name ≡ true) (map actor_data actors)
actors_are_text actors =
    All-map (λ (actor : ActorData). is_utf8 actor.name ≡ true) actor_data actors (λ k d within. text_of (get_or actors k d).name)

pub text_names : (inst : InstanceData) (scenes : List Scene) (actors : List Actor) → map scene_data scenes ≡ inst.scenes → map actor_data actors ≡ inst.actors
    → HasReadableNames inst → HasTextNames inst
text_names inst scenes actors same_scenes same_actors names = record {
  scenes = λ k d within. record {
    text = subst (All (λ (scene : SceneData). is_utf8 scene.name ≡ true)) same_scenes (scenes_are_text scenes) k d within;
    readable = names.scenes k d within;
  };
  actors = λ k d within. record {
    text = subst (All (λ (actor : ActorData). is_utf8 actor.name ≡ true)) same_actors (actors_are_text actors) k d within;
    readable = names.actors k d within;
  };
}
