use Rattle.std.proofs.Common.{◌∙◌, ap, sym, subst}
use Rattle.strip_crew.specs.declared.source.Source.{Source}
use Rattle.strip_crew.specs.Sources.{JoinsSource, split_home}
use Rattle.strip_crew.proofs.Dealt.{counter_joins}
use Rattle.strip_crew.proofs.sources.join_source.Goals as goal

pub returns-in-Counter : goal.returns-in-Counter
returns-in-Counter c =
    subst (λ (source : Source). JoinsSource source c.args.other source) (sym c.in-Counter.is)
    (counter_joins c.args.other (c.requires.home ∙ ap split_home c.in-Counter.is))
