use Rattle.std.proofs.Common.{[], ◌∷◌, arith, sym, ap, ◌∙◌}
use Rattle.strip_words.specs.Words.{Word}
use Rattle.strip_words.proofs.Results.{err_from, no_memory}
use Rattle.strip_words.proofs.Shows.{one_str, operand_count}
use Rattle.strip_words.proofs.films.film_file.Goals as goal

pub returns-in_err-reading-clause-bad : goal.returns-in_err-reading-clause-bad
returns-in_err-reading-clause-bad c = err_from c.from_residual.result _ _ c.from_residual.ensures.1 (λ e given is file names.
    c.in_err-reading.ensures.bad (sym given ∙ is) names.0 names.1 names.2)

pub returns-in_err-operands-clause-bad : goal.returns-in_err-operands-clause-bad
returns-in_err-operands-clause-bad c = no_memory c.from_residual-in_err-operands.result _ c.from_residual-in_err-operands.ensures.1

pub index-requires : goal.index-requires
index-requires c =
    let operands = c.in_ok-operands.operands in
    omega (arith, operands.ok.0, operand_count operands.items _ _ _ _ c.in_ok-operands.ensures c.in_ok-reading.ensures.ok)

pub returns-in_err-film-clause-bad : goal.returns-in_err-film-clause-bad
returns-in_err-film-clause-bad c = no_memory c.from_residual-in_err-film.result _ c.from_residual-in_err-film.ensures.1

pub returns-clause-named : goal.returns-clause-named
returns-clause-named c =
    let operands = c.in_ok-operands.operands.items in
    let one = operand_count operands _ _ _ _ c.in_ok-operands.ensures c.in_ok-reading.ensures.ok in
    let film = ap (λ word. word.now) (sym c.index.ensures) ∙ sym c.in_ok-film.ensures.ok in (
      _,
      _,
      c.in_ok-reading.ensures.ok,
      sym c.in_ok-operands.ensures ∙ one_str operands c.index.result.now one ∙ ap (λ (word : Word). word ∷ []) film,
    )
