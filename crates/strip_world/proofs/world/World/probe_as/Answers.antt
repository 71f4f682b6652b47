use Rattle.std.proofs.Common.{◌≡◌, ◌<◌, ◌∙◌, ℕ, Some, length, set, get_or, ap, refl, sym, subst}
use Rattle.strip_film.specs.declared.shared.Probe.{Probe}
use Rattle.strip_world.specs.contracts.world.World.{the_view}
use Rattle.strip_world.specs.Steps.{found, probed}
use Rattle.strip_world.specs.World.{WorkerData, WorldData, no_worker}
use Rattle.strip_world.proofs.Shown.{worker_written}
use Rattle.strip_world.proofs.world.World.probe_as.Goals as goal

pub returns-clause-world : goal.returns-clause-world
returns-clause-world c =
    let world : WorldData = the_view c.self.inside in
    let q : ℕ = c.args.set.0 in
    let asked : Probe → WorkerData → WorkerData = λ p d. record d { probe = Some (record { set = q; answer = p }) } in
    let lt = subst (λ (w : WorldData). c.args.who < length w.workers) (sym c.self.view_is) c.requires.who in
    let written = worker_written c.self.inside.workers.items c.args.who c.index_mut.result.now
    (record c.index_mut.result.now { asked = Some (record { set = q; answer = c.ask-answer.result }) }) (asked c.ask-answer.result) lt c.index_mut.ensures.value refl in
    let told : c.ask-answer.result ≡ found world q = c.ask-answer.ensures ∙ ap (λ (w : WorldData). found w q) (sym c.self.view_is) in
    (λ i. record world { workers = written i })
    ∙ ap (λ (p : Probe). record world { workers = set world.workers c.args.who (asked p (get_or world.workers c.args.who no_worker)) }) told
    ∙ ap (λ (w : WorldData). probed w c.args.who q) c.self.view_is
