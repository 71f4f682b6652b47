use Rattle.std.proofs.Common.{ℕ, IfErr, IfOk, sym, subst}
use Rattle.strip_words.specs.Options.{IsChosen}
use Rattle.strip_words.specs.Shown.{items_data}
use Rattle.strip_words.specs.Solve.{nodes_for}
use Rattle.strip_words.proofs.solve.nodes_of.Goals as goal

pub returns-then-auto-clause-ok : goal.returns-then-auto-clause-ok
returns-then-auto-clause-ok c =
    subst (λ auto. IfOk c.chosen.result (IsChosen (nodes_for auto) (items_data c.args.items.now))) (sym c.if-auto.true) c.chosen.ensures.ok

pub returns-then-auto-clause-bad : goal.returns-then-auto-clause-bad
returns-then-auto-clause-bad c =
    subst (λ auto. IfErr c.chosen.result (λ e. (n : ℕ) → ¬ IsChosen (nodes_for auto) (items_data c.args.items.now) n)) (sym c.if-auto.true) c.chosen.ensures.bad

pub returns-else-auto-clause-ok : goal.returns-else-auto-clause-ok
returns-else-auto-clause-ok c =
    subst (λ auto. IfOk c.chosen-else-auto.result (IsChosen (nodes_for auto) (items_data c.args.items.now))) (sym c.if-auto.false) c.chosen-else-auto.ensures.ok

pub returns-else-auto-clause-bad : goal.returns-else-auto-clause-bad
returns-else-auto-clause-bad c =
    subst (λ auto. IfErr c.chosen-else-auto.result (λ e. (n : ℕ) → ¬ IsChosen (nodes_for auto) (items_data c.args.items.now) n)) (sym c.if-auto.false) c.chosen-else-auto.ensures.bad
