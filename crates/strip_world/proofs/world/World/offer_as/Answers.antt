use Rattle.std.proofs.Common.{◌≡◌, ◌<◌, ◌∙◌, ℕ, length, min, set, get_or, ap, subst, sym}
use Rattle.std.specs.Prelude.{nat_lt, if◌then◌else◌}
use Rattle.strip_film.specs.Path.{PathData}
use Rattle.strip_film.specs.Shown.{path_data}
use Rattle.strip_world.specs.contracts.world.World.{the_view}
use Rattle.strip_world.specs.Steps.{offered}
use Rattle.strip_world.specs.World.{WorldData, WorkerData, no_worker}
use Rattle.strip_world.proofs.Shown.{worker_written}
use Rattle.strip_world.proofs.world.World.offer_as.Goals as goal

pub returns-clause-world : goal.returns-clause-world
returns-clause-world c =
    let world : WorldData = the_view c.self.inside in
    let path : PathData = path_data c.args.path.now in
    let kept : ℕ → WorkerData → WorkerData = λ told d. record d { told = told; best = if nat_lt path.paid d.best.paid then path else d.best } in
    let least : c.min-self-inside.result ≡ min world.least path.paid = c.min-self-inside.ensures ∙ ap (min world.least) c.paid.ensures in
    let lt = subst (λ (w : WorldData). c.args.who < length w.workers) (sym c.self.view_is) c.requires in
    let written = worker_written c.self.inside.workers.items c.args.who c.index_mut.result.now c.keep.new.self (kept c.min-self-inside.result) lt c.index_mut.ensures.value c.keep.ensures in
    (λ i. record world { least = c.min-self-inside.result; workers = written i })
    ∙ ap (λ (m : ℕ). record world { least = m; workers = set world.workers c.args.who (kept m (get_or world.workers c.args.who no_worker)) }) least
    ∙ ap (λ (w : WorldData). offered w c.args.who path) c.self.view_is
