use Rattle.std.proofs.Common.{◌≡◌, ◌<◌, Some, length, refl, sym, subst}
use Rattle.strip_film.specs.declared.shared.Known.{Known}
use Rattle.strip_world.specs.contracts.world.World.{the_view}
use Rattle.strip_world.specs.Steps.{IsNoted}
use Rattle.strip_world.specs.World.{WorkerData, WorldData}
use Rattle.strip_world.proofs.Shown.{worker_written}
use Rattle.strip_world.proofs.Stripes.{noted}
use Rattle.strip_world.proofs.world.World.note_as.Goals as goal

pub returns : goal.returns
returns c =
    let world : WorldData = the_view c.self.inside in
    let known : Known = c.args.known.now in
    let lt = subst (λ (w : WorldData). c.args.who < length w.workers) (sym c.self.view_is) c.requires.who in
    let written = worker_written c.self.inside.workers.items c.args.who c.index_mut.result.now
    (record c.index_mut.result.now { note = Some known }) (λ (d : WorkerData). record d { note = Some known }) lt c.index_mut.ensures.value refl in
    let count = subst (λ (w : WorldData). length w.stripes ≡ 16) (sym c.self.view_is) c.requires.sound.stripe_count in
    subst (λ (w : WorldData). IsNoted w c.args.who known (the_view (record c.self.inside {
      stripes = Rattle.std.specs.Vec.with_item c.self.inside.stripes c.stripe_of.result c.put.new.self;
      workers = Rattle.std.specs.Vec.with_item c.self.inside.workers c.args.who (record c.index_mut.result.now { note = Some known });
    })) c.put.result) c.self.view_is
    (noted world c.args.who c.stripe_of.result known c.put.result _ c.index_mut-2.result.now c.put.new.self count
    c.stripe_of.ensures.stripe c.stripe_of.ensures.below c.index_mut-2.ensures.value c.put.ensures.puts c.put.ensures.others written)
