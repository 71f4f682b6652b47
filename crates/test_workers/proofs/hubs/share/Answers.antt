use Rattle.std.proofs.Common.{sym, subst}
use Rattle.strip_least.specs.declared.view.View.{View as LeastView}
use Rattle.strip_least.specs.Pass.{known as known_least}
use Rattle.strip_book.specs.View.{ViewData}
use Rattle.strip_book.specs.Pass.{known}
use Rattle.strip_book.specs.Steps.{lightened, split_off}
use Rattle.strip_crew.specs.declared.source.Source.{Source}
use Rattle.strip_crew.specs.declared.source.Source.TheVariants.{Counter}
use Rattle.strip_crew.specs.Hub.{GoTogether}
use Rattle.strip_crew.proofs.Dealt.{counter_splits}
use Rattle.strip_crew.proofs.Joined.{fresh_together, light_together}
use Rattle.test_workers.proofs.hubs.share.Goals as goal

pub of-first-requires-clause-together : goal.of-first-requires-clause-together
of-first-requires-clause-together g c =
    let told = known_least c.args.passes.told in
    let lines = known c.new.new.pass in
    subst (λ (source : Source). GoTogether source (known_least c.split.new.self) (known c.split-2.new.self)) (sym c.requires.counter)
    (subst (λ (v : ViewData). GoTogether Counter (known_least c.split.new.self) v) (sym c.split-2.ensures.lighter)
    (subst (λ (v : LeastView). GoTogether Counter v (lightened lines)) (sym c.split.ensures.lighter)
    (light_together Counter Counter Counter told lines
    (subst (λ (source : Source). GoTogether source told lines) c.requires.counter
    (subst (λ (v : ViewData). GoTogether c.args.passes.source told v) (sym c.new.ensures.same) c.requires.passes.together)) counter_splits)))

pub of-second-requires-clause-together : goal.of-second-requires-clause-together
of-second-requires-clause-together g c =
    let told = known_least c.args.passes.told in
    let lines = known c.new.new.pass in
    subst (λ (v : ViewData). GoTogether Counter (known_least c.split.result) v) (sym c.split-2.ensures.knows)
    (subst (λ (v : LeastView). GoTogether Counter v (split_off lines)) (sym c.split.ensures.knows)
    (fresh_together Counter Counter Counter told lines
    (subst (λ (source : Source). GoTogether source told lines) c.requires.counter
    (subst (λ (v : ViewData). GoTogether c.args.passes.source told v) (sym c.new.ensures.same) c.requires.passes.together)) counter_splits))
