use Rattle.std.proofs.Common.{codes, length, ◌∷◌, ◌∙◌, sym, ap, subst}
use Rattle.strip_words.specs.Words.{operands_of}
use Rattle.strip_words.specs.Gen.{NameFilm, SayTrial}
use Rattle.strip_words.specs.Shown.{gen_data, items_data, rest_data, strs, texts, trial_data}
use Rattle.strip_words.proofs.Results.{if_err, no_memory}
use Rattle.strip_words.proofs.Given.{distinct_in}
use Rattle.strip_words.proofs.Made.{trial_said}
use Rattle.strip_words.proofs.Shows.{operand_count}
use Rattle.strip_words.proofs.making.trial_job.Goals as goal

pub chosen-requires : goal.chosen-requires
chosen-requires c = distinct_in _ _ c.as_slice-items.ensures.value c.in_ok-reading.ensures.ok.once

pub returns-in_err-nodes-clause-bad : goal.returns-in_err-nodes-clause-bad
returns-in_err-nodes-clause-bad c = if_err c.from_residual-in_err-nodes.result _ (λ e is job names.
    c.in_err-nodes.ensures.bad job.nodes
    (trial_said (codes "trial" ∷ texts c.args.later.now) c.in_ok-reading.reading.items.items c.as_slice-items.result.now (rest_data c.in_ok-reading.reading.rest) job c.as_slice-items.ensures.value c.in_ok-reading.ensures.ok names).nodes)

pub returns-in_err-effort-clause-bad : goal.returns-in_err-effort-clause-bad
returns-in_err-effort-clause-bad c = if_err c.from_residual-in_err-effort.result _ (λ e is job names.
    let says = trial_said (codes "trial" ∷ texts c.args.later.now) c.in_ok-reading.reading.items.items c.as_slice-items.result.now (rest_data c.in_ok-reading.reading.rest) job c.as_slice-items.ensures.value c.in_ok-reading.ensures.ok names in
    c.in_err-effort.ensures.bad job.table job.tries job.steps job.kind says.table says.tries says.steps says.kind)

pub returns-in_err-film-clause-bad : goal.returns-in_err-film-clause-bad
returns-in_err-film-clause-bad c = if_err c.from_residual-in_err-film.result _ (λ e is job names.
    let items = c.in_ok-reading.reading.items.items in
    let rest = rest_data c.in_ok-reading.reading.rest in
    let says = trial_said (codes "trial" ∷ texts c.args.later.now) items items rest job (λ i. items) c.in_ok-reading.ensures.ok names in
    c.in_err-film.ensures.bad job.film
    (subst (λ ws. NameFilm ws job.film) (sym (ap strs c.as_slice.ensures.value ∙ c.in_ok-operands.ensures)) says.film))

pub returns-clause-named : goal.returns-clause-named
returns-clause-named c =
    let items = c.in_ok-reading.reading.items.items in
    let rest = rest_data c.in_ok-reading.reading.rest in
    let slice = c.as_slice-items.result.now in
    let job = trial_data (record {
      film = c.in_ok-film.film;
      nodes = c.in_ok-nodes.nodes;
      table = c.in_ok-effort.effort.table;
      tries = c.in_ok-effort.effort.tries;
      steps = c.in_ok-effort.effort.steps;
      kind = c.in_ok-effort.effort.kind;
    }) in
    let says : SayTrial (items_data slice) rest job = record {
      film = subst (λ items. NameFilm (operands_of (items_data items) rest) (gen_data c.in_ok-film.film)) (sym c.as_slice-items.ensures.value)
          (subst (λ ws. NameFilm ws (gen_data c.in_ok-film.film)) (ap strs c.as_slice.ensures.value ∙ c.in_ok-operands.ensures) c.in_ok-film.ensures.named);
      nodes = c.in_ok-nodes.ensures.ok;
      table = c.in_ok-effort.ensures.table;
      tries = c.in_ok-effort.ensures.tries;
      steps = c.in_ok-effort.ensures.steps;
      kind = c.in_ok-effort.ensures.kind;
    } in (
      items_data items,
      rest,
      c.in_ok-reading.ensures.ok,
      subst (λ items. SayTrial (items_data items) rest job) c.as_slice-items.ensures.value says,
    )

pub effort_of-requires : goal.effort_of-requires
effort_of-requires c = distinct_in _ _ c.as_slice-items.ensures.value c.in_ok-reading.ensures.ok.once

pub returns-in_err-operands-clause-bad : goal.returns-in_err-operands-clause-bad
returns-in_err-operands-clause-bad c = no_memory c.from_residual-in_err-operands.result _ c.from_residual-in_err-operands.ensures.1

pub film_named-requires : goal.film_named-requires
film_named-requires c =
    ap length c.as_slice.ensures.value ∙ operand_count c.in_ok-operands.operands.items _ _ _ _ c.in_ok-operands.ensures c.in_ok-reading.ensures.ok
