use Rattle.std.proofs.Common.{refl, sym, ap, subst, ◌∙◌, ◌<◌, length}
use Rattle.strip_world.specs.contracts.world.World.{the_view}
use Rattle.strip_world.specs.Steps.{looked}
use Rattle.strip_world.specs.World.{WorldData, WorkerData}
use Rattle.strip_world.proofs.Shown.{worker_written}
use Rattle.strip_world.proofs.world.World.look_as.Goals as goal

pub returns-clause-world : goal.returns-clause-world
returns-clause-world c =
    let lt = subst (λ (w : WorldData). c.args.who < length w.workers) (sym c.self.view_is) c.requires in
    (λ i. record (the_view c.self.inside) {
      workers = worker_written c.self.inside.workers.items c.args.who c.index_mut.result.now
          (record c.index_mut.result.now { told = c.self.inside.least }) (λ (d : WorkerData). record d { told = c.self.inside.least }) lt c.index_mut.ensures.value refl i;
    }) ∙ ap (λ (w : WorldData). looked w c.args.who) c.self.view_is
