use Rattle.std.proofs.Common.{codes, ◌∷◌, ◌∙◌, ap}
use Rattle.strip_words.specs.Shown.{rest_data, strs, texts}
use Rattle.strip_words.proofs.Results.{err_as}
use Rattle.strip_words.proofs.Made.{film_said}
use Rattle.strip_words.proofs.making.gen_job.Goals as goal

pub returns-clause-bad : goal.returns-clause-bad
returns-clause-bad c = err_as c.film_named.result _ _ c.film_named.ensures.bad (λ e none is film names.
    none film (film_said (codes "gen" ∷ texts c.args.later.now) c.in_ok-reading.reading.items.items (rest_data c.in_ok-reading.reading.rest)
    (strs c.as_slice.result.now) film (ap strs c.as_slice.ensures.value ∙ c.in_ok-operands.ensures) c.in_ok-reading.ensures.ok names))
