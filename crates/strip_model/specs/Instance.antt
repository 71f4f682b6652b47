-- What contracts see of scenes, actors and instances.
use Rattle.std.specs.Prelude.{List, map}
use Rattle.std.specs.String.{string_bytes}
use Rattle.strip_model.specs.declared.pair.Pair.{Pair}
use Rattle.strip_model.specs.declared.scene.Scene.{Scene}
use Rattle.strip_model.specs.declared.scene.Actor.{Actor}
use Rattle.strip_model.specs.Data.{SceneData, ActorData, InstanceData}

abbrev pub scene_data : Scene → SceneData
scene_data scene = record { name = string_bytes scene.name; days = scene.days; cast = scene.cast }

abbrev pub actor_data : Actor → ActorData
actor_data actor = record { name = string_bytes actor.name; rate = actor.rate; hold = actor.hold }

-- the instance of these scenes, actors and pairs
abbrev pub instance_data : List Scene → List Actor → List Pair → InstanceData
instance_data scenes actors pairs = record { scenes = map scene_data scenes; actors = map actor_data actors; pairs = pairs }
