use Rattle.std.proofs.Common.{sym, subst}
use Rattle.strip_words.specs.Options.{IsPicked}
use Rattle.strip_words.specs.Solve.{bounds_option, bound_word}
use Rattle.strip_words.specs.Shown.{items_data}
use Rattle.strip_words.proofs.Results.{if_err}
use Rattle.strip_words.proofs.Solving.{bound_picked}
use Rattle.strip_words.proofs.effort.effort_of.Goals as goal

pub returns-in_err-table-clause-bad : goal.returns-in_err-table-clause-bad
returns-in_err-table-clause-bad c = if_err c.from_residual.result _ (λ e table tries steps kind t r s p. c.in_err-table.ensures.bad table t)

pub returns-in_err-tries-clause-bad : goal.returns-in_err-tries-clause-bad
returns-in_err-tries-clause-bad c = if_err c.from_residual-in_err-tries.result _ (λ e table tries steps kind t r s p. c.in_err-tries.ensures.bad tries r)

pub returns-in_err-steps-clause-bad : goal.returns-in_err-steps-clause-bad
returns-in_err-steps-clause-bad c = if_err c.from_residual-in_err-steps.result _ (λ e table tries steps kind t r s p. c.in_err-steps.ensures.bad steps s)

pub returns-in_err-picked-clause-bad : goal.returns-in_err-picked-clause-bad
returns-in_err-picked-clause-bad c = if_err c.from_residual-in_err-picked.result _ (λ e table tries steps kind t r s p. c.in_err-picked.ensures.bad (bound_word kind) p)

pub kind_of-kind-requires : goal.kind_of-kind-requires
kind_of-kind-requires c = bound_picked (items_data c.args.items.now) c.in_ok-picked.field-0.now c.in_ok-picked.ensures.ok

pub returns-clause-kind : goal.returns-clause-kind
returns-clause-kind c = subst (IsPicked bounds_option (items_data c.args.items.now)) (sym c.kind_of-kind.ensures) c.in_ok-picked.ensures.ok
