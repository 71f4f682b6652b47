use Rattle.std.proofs.Common.{[], ◌∷◌, arith, sym, ap, ap₂, ◌∙◌}
use Rattle.strip_words.specs.Words.{Word}
use Rattle.strip_words.proofs.Results.{err_from, no_memory}
use Rattle.strip_words.proofs.Shows.{operand_count, two_strs}
use Rattle.strip_words.proofs.plans.plan_files.Goals as goal

pub returns-in_err-reading-clause-bad : goal.returns-in_err-reading-clause-bad
returns-in_err-reading-clause-bad c = err_from c.from_residual.result _ _ c.from_residual.ensures.1 (λ e given is files names.
    c.in_err-reading.ensures.bad (sym given ∙ is) names.0 names.1 names.2)

pub returns-in_err-operands-clause-bad : goal.returns-in_err-operands-clause-bad
returns-in_err-operands-clause-bad c = no_memory c.from_residual-in_err-operands.result _ c.from_residual-in_err-operands.ensures.1

pub index-requires : goal.index-requires
index-requires c =
    let operands = c.in_ok-operands.operands in
    omega (arith, operands.ok.0, operand_count operands.items _ _ _ _ c.in_ok-operands.ensures c.in_ok-reading.ensures.ok)

pub returns-in_err-film-clause-bad : goal.returns-in_err-film-clause-bad
returns-in_err-film-clause-bad c = no_memory c.from_residual-in_err-film.result _ c.from_residual-in_err-film.ensures.1

pub index-requires-2 : goal.index-requires-2
index-requires-2 c =
    let operands = c.in_ok-operands.operands in
    omega (arith, operands.ok.0, operand_count operands.items _ _ _ _ c.in_ok-operands.ensures c.in_ok-reading.ensures.ok)

pub returns-in_err-plan-clause-bad : goal.returns-in_err-plan-clause-bad
returns-in_err-plan-clause-bad c = no_memory c.from_residual-in_err-plan.result _ c.from_residual-in_err-plan.ensures.1

pub returns-clause-named : goal.returns-clause-named
returns-clause-named c =
    let operands = c.in_ok-operands.operands.items in
    let two = operand_count operands _ _ _ _ c.in_ok-operands.ensures c.in_ok-reading.ensures.ok in
    let film = ap (λ word. word.now) (sym c.index.ensures) ∙ sym c.in_ok-film.ensures.ok in
    let plan = ap (λ word. word.now) (sym c.index-2.ensures) ∙ sym c.in_ok-plan.ensures.ok in (
      _,
      _,
      c.in_ok-reading.ensures.ok,
      sym c.in_ok-operands.ensures ∙ two_strs operands c.index.result.now c.index-2.result.now two ∙ ap₂ (λ (a b : Word). a ∷ b ∷ []) film plan,
    )
