use Rattle.std.proofs.Common.{[], length, sym, ap, subst}
use Rattle.std.proofs.lemmas.Bool.{false≢true}
use Rattle.strip_model.specs.Pairs.{FitPairs}
use Rattle.strip_model.specs.Data.{InstanceData, IsInstance}
use Rattle.strip_model.proofs.Fits.{fit-none}
use Rattle.strip_instance.proofs.reading.made.Goals as goal

pub with_pairs-requires : goal.with_pairs-requires
with_pairs-requires c = subst (λ n. FitPairs n c.args.pairs.items) (ap (λ (inst : InstanceData). length inst.scenes) (sym c.in-Some.ensures.same)) c.requires.pairs

-- an instance without its pairs is one
without_pairs : (inst : InstanceData) → IsInstance inst → IsInstance (record inst { pairs = [] })
without_pairs inst limits = record {
  scene_count = limits.scene_count;
  actor_count = limits.actor_count;
  scenes = limits.scenes;
  actors = limits.actors;
  scene_names = limits.scene_names;
  actor_names = limits.actor_names;
  pairs = fit-none (length inst.scenes);
}

pub unreachable-requires : goal.unreachable-requires
unreachable-requires c = false≢true (c.in-None.ensures.limits.1 (without_pairs _ c.requires))
