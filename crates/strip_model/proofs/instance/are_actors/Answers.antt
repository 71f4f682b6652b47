use Rattle.std.proofs.Common.{◌≢◌}
use Rattle.std.proofs.lemmas.List.Elements.{All-map}
use Rattle.strip_model.specs.Data.{ActorData, IsActor}
use Rattle.strip_model.specs.Instance.{actor_data}
use Rattle.strip_model.proofs.Pairs.{All-from_map, AllPairs-map, AllPairs-from_map}
use Rattle.strip_model.proofs.instance.are_actors.Goals as goal

pub returns-then-all_keep_actor_limits : goal.returns-then-all_keep_actor_limits
returns-then-all_keep_actor_limits c = (
  λ yes. (
    All-map (IsActor) actor_data c.args.actors.now (c.all_keep_actor_limits.ensures.0 c.if-all_keep_actor_limits.true),
    AllPairs-map actor_data (λ (a b : ActorData). a.name ≢ b.name) c.args.actors.now (c.have_own_names.ensures.0 yes),
  ),
  λ keeps. c.have_own_names.ensures.1 (AllPairs-from_map actor_data (λ (a b : ActorData). a.name ≢ b.name) c.args.actors.now keeps.1),
)

pub returns-else-all_keep_actor_limits : goal.returns-else-all_keep_actor_limits
returns-else-all_keep_actor_limits c = (
  λ yes. (cc),
  λ keeps. c.all_keep_actor_limits.ensures.1 (All-from_map (IsActor) actor_data c.args.actors.now keeps.0),
)
