use Rattle.std.proofs.Common.{◌∙◌, sym}
use Rattle.strip_top.proofs.Chosen.{first_chosen, second_chosen}
use Rattle.strip_top.proofs.choosing.choose_beside.Goals as goal

pub returns-then-is_some : goal.returns-then-is_some
returns-then-is_some g c = λ film same stands own.
    first_chosen film c.args.options.nodes c.with_pairs-first.result.nodes c.with_pairs-first.result.kind c.in_ok-searched.searched.trimmed c.plan_of.result
    c.with_pairs-first.ensures.kind c.with_pairs-first.ensures.nodes (sym c.is_some.ensures ∙ c.if-is_some.true) (c.plan_of.ensures.solved film same stands own) c.plan_of.ensures.status

pub returns : goal.returns
returns g c = λ film same stands own.
    second_chosen film c.args.options.nodes c.with_arrivals-second.result.nodes c.with_arrivals-second.result.kind c.plan_of-2.result c.with_arrivals-second.ensures.kind
    c.with_arrivals-second.ensures.nodes (c.plan_of-2.ensures.solved film same stands own)
