use Rattle.std.proofs.Common.{arith, ◌≡◌, [], ◌∷◌, codes, length, sym, ap, ◌∙◌, subst}
use Rattle.strip_words.specs.Words.{Word, operands_of}
use Rattle.strip_words.specs.Options.{IsChosen}
use Rattle.strip_words.specs.Solve.{SayJob, nodes_for}
use Rattle.strip_words.specs.Shown.{texts, strs, items_data, rest_data, solve_data}
use Rattle.strip_model.proofs.Lists.{same_test}
use Rattle.strip_words.proofs.Results.{err_from, if_err, no_memory}
use Rattle.strip_words.proofs.Shows.{one_str, operand_count}
use Rattle.strip_words.proofs.Given.{distinct_in}
use Rattle.strip_words.proofs.Solving.{said_by_items}
use Rattle.strip_words.proofs.solve.solve_job.Goals as goal

pub returns-in_err-reading-clause-bad : goal.returns-in_err-reading-clause-bad
returns-in_err-reading-clause-bad c = err_from c.from_residual.result _ _ c.from_residual.ensures.1 (λ e given is job names.
    c.in_err-reading.ensures.bad (sym given ∙ is) names.0 names.1 names.2)

pub returns-in_err-workers-clause-bad : goal.returns-in_err-workers-clause-bad
returns-in_err-workers-clause-bad c = if_err c.from_residual-in_err-workers.result _ (λ e is job names.
    c.in_err-workers.ensures.bad job.workers
    (said_by_items (codes "solve" ∷ texts c.args.later.now) c.in_ok-reading.reading.items.items c.as_slice-items.result.now (rest_data c.in_ok-reading.reading.rest) job c.as_slice-items.ensures.value c.in_ok-reading.ensures.ok names).workers)

pub returns-in_err-effort-clause-bad : goal.returns-in_err-effort-clause-bad
returns-in_err-effort-clause-bad c = if_err c.from_residual-in_err-effort.result _ (λ e is job names.
    let says = said_by_items (codes "solve" ∷ texts c.args.later.now) c.in_ok-reading.reading.items.items c.as_slice-items.result.now (rest_data c.in_ok-reading.reading.rest) job c.as_slice-items.ensures.value c.in_ok-reading.ensures.ok names in
    c.in_err-effort.ensures.bad job.table job.tries job.steps job.kind says.table says.tries says.steps says.kind)

pub returns-in_err-auto-clause-bad : goal.returns-in_err-auto-clause-bad
returns-in_err-auto-clause-bad c = if_err c.from_residual-in_err-auto.result _ (λ e is job names.
    let says = said_by_items (codes "solve" ∷ texts c.args.later.now) c.in_ok-reading.reading.items.items c.as_slice-items.result.now (rest_data c.in_ok-reading.reading.rest) job c.as_slice-items.ensures.value c.in_ok-reading.ensures.ok names in
    c.in_err-auto.ensures.bad.1 (says.chosen (says.auto.1 c.in_err-auto.ensures.bad.0)))

pub returns-in_err-nodes-clause-bad : goal.returns-in_err-nodes-clause-bad
returns-in_err-nodes-clause-bad c = if_err c.from_residual-in_err-nodes.result _ (λ e is job names.
    let says = said_by_items (codes "solve" ∷ texts c.args.later.now) c.in_ok-reading.reading.items.items c.as_slice-items.result.now (rest_data c.in_ok-reading.reading.rest) job c.as_slice-items.ensures.value c.in_ok-reading.ensures.ok names in
    let flag = c.in_ok-auto.ensures.flag in
    let auto = same_test job.auto c.in_ok-auto.auto (λ is. flag.1 (says.auto.0 is)) (λ is. says.auto.1 (flag.0 is)) in
    c.in_err-nodes.ensures.bad job.nodes (subst (λ auto. IsChosen (nodes_for auto) (items_data c.as_slice-items.result.now) job.nodes) auto says.nodes))

pub returns-clause-named : goal.returns-clause-named
returns-clause-named c =
    let reading = c.in_ok-reading.reading in
    let spelled = c.in_ok-reading.ensures.ok in
    let slice = c.as_slice-items.result.now in
    let operands = c.in_ok-operands.operands.items in
    let all : strs operands ≡ operands_of (items_data reading.items.items) (rest_data reading.rest) = c.in_ok-operands.ensures in
    let one : length operands ≡ 1 = operand_count operands _ _ _ _ all spelled in
    let job = solve_data (record {
      file = c.in_ok-file.file;
      workers = c.in_ok-workers.workers;
      nodes = c.in_ok-nodes.nodes;
      table = c.in_ok-effort.effort.table;
      tries = c.in_ok-effort.effort.tries;
      steps = c.in_ok-effort.effort.steps;
      kind = c.in_ok-effort.effort.kind;
      proof = c.has_flag-proof.result;
      progress = c.has_flag-progress.result;
      steal = c.has_flag-steal.result;
      auto = c.in_ok-auto.auto;
    }) in
    let says : SayJob (items_data slice) (rest_data reading.rest) job = record {
      file = ap (λ items. operands_of (items_data items) (rest_data reading.rest)) c.as_slice-items.ensures.value ∙ sym all ∙ one_str operands c.index.result.now one
          ∙ ap (λ (w : Word). w ∷ []) (ap (λ word. word.now) (sym c.index.ensures) ∙ sym c.in_ok-file.ensures.ok);
      workers = c.in_ok-workers.ensures.ok;
      nodes = c.in_ok-nodes.ensures.ok;
      table = c.in_ok-effort.ensures.table;
      tries = c.in_ok-effort.ensures.tries;
      steps = c.in_ok-effort.ensures.steps;
      kind = c.in_ok-effort.ensures.kind;
      proof = c.has_flag-proof.ensures;
      progress = c.has_flag-progress.ensures;
      steal = c.has_flag-steal.ensures;
      auto = c.in_ok-auto.ensures.flag;
      chosen = c.in_ok-auto.ensures.chosen;
    } in (
      items_data reading.items.items,
      rest_data reading.rest,
      spelled,
      subst (λ items. SayJob (items_data items) (rest_data reading.rest) job) c.as_slice-items.ensures.value says,
    )

pub workers_of-requires : goal.workers_of-requires
workers_of-requires c = distinct_in _ _ c.as_slice-items.ensures.value c.in_ok-reading.ensures.ok.once

pub nodes_of-requires : goal.nodes_of-requires
nodes_of-requires c = distinct_in _ _ c.as_slice-items.ensures.value c.in_ok-reading.ensures.ok.once

pub effort_of-requires : goal.effort_of-requires
effort_of-requires c = distinct_in _ _ c.as_slice-items.ensures.value c.in_ok-reading.ensures.ok.once

pub returns-in_err-operands-clause-bad : goal.returns-in_err-operands-clause-bad
returns-in_err-operands-clause-bad c = no_memory c.from_residual-in_err-operands.result _ c.from_residual-in_err-operands.ensures.1

pub index-requires : goal.index-requires
index-requires c =
    let operands = c.in_ok-operands.operands in
    omega (arith, operands.ok.0, operand_count operands.items _ _ _ _ c.in_ok-operands.ensures c.in_ok-reading.ensures.ok)

pub returns-in_err-file-clause-bad : goal.returns-in_err-file-clause-bad
returns-in_err-file-clause-bad c = no_memory c.from_residual-in_err-file.result _ c.from_residual-in_err-file.ensures.1
