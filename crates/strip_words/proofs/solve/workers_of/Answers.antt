use Rattle.std.proofs.Common.{sym, ◌∙◌}
use Rattle.strip_words.specs.Shown.{items_data}
use Rattle.strip_words.specs.Solve.{all_workers}
use Rattle.strip_words.proofs.Solving.{differ}
use Rattle.strip_words.proofs.Workers.{no_workers}
use Rattle.strip_words.proofs.solve.workers_of.Goals as goal

pub returns-in-None-number_of-clause-bad : goal.returns-in-None-number_of-clause-bad
returns-in-None-number_of-clause-bad c =
    no_workers c.in-Some.value.now (items_data c.args.items.now) c.requires c.in-Some.ensures.some (λ same. differ c.in-Some.value.now all_workers (sym c.eq.ensures ∙ c.if-eq.false) same) c.in-None-number_of.ensures.none
