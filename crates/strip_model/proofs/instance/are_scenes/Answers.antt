use Rattle.std.proofs.Common.{◌≢◌}
use Rattle.std.proofs.lemmas.List.Elements.{All-map}
use Rattle.strip_model.specs.Data.{SceneData, IsScene}
use Rattle.strip_model.specs.Instance.{scene_data}
use Rattle.strip_model.proofs.Pairs.{All-from_map, AllPairs-map, AllPairs-from_map}
use Rattle.strip_model.proofs.instance.are_scenes.Goals as goal

pub returns-then-all_keep_scene_limits : goal.returns-then-all_keep_scene_limits
returns-then-all_keep_scene_limits c = (
  λ yes. (
    All-map (IsScene c.args.actors) scene_data c.args.scenes.now (c.all_keep_scene_limits.ensures.0 c.if-all_keep_scene_limits.true),
    AllPairs-map scene_data (λ (a b : SceneData). a.name ≢ b.name) c.args.scenes.now (c.have_own_names.ensures.0 yes),
  ),
  λ keeps. c.have_own_names.ensures.1 (AllPairs-from_map scene_data (λ (a b : SceneData). a.name ≢ b.name) c.args.scenes.now keeps.1),
)

pub returns-else-all_keep_scene_limits : goal.returns-else-all_keep_scene_limits
returns-else-all_keep_scene_limits c = (
  λ yes. (cc),
  λ keeps. c.all_keep_scene_limits.ensures.1 (All-from_map (IsScene c.args.actors) scene_data c.args.scenes.now keeps.0),
)
