use Rattle.std.proofs.Common.{◌≡◌, ◌+◌, ◌∙◌, length, ap, sym, subst, arith}
use Rattle.std.proofs.lemmas.Result.{IfOk-weaker}
use Rattle.strip_film.specs.Film.{IsFilmUpTo}
use Rattle.strip_model.specs.FilmOf.{film_of}
use Rattle.strip_reduce.specs.Draft.{draft_state}
use Rattle.strip_reduce.specs.Law.{StandsFor}
use Rattle.strip_reduce.specs.Reduction.{after_steps, reduced}
use Rattle.strip_reduce.specs.Shown.{reduced_data}
use Rattle.strip_reduce.specs.State.{State, start}
use Rattle.strip_reduce.proofs.classes.reduce.Goals as goal

pub returns-clause-stands : goal.returns-clause-stands
returns-clause-stands c =
    let film = film_of c.args.inst.now in
    let began : draft_state c.in_ok-draft.draft ≡ start (film_of c.args.inst.now) = c.in_ok-draft.ensures.state in
    let is : IsFilmUpTo 200 (film_of c.args.inst.now) = subst (λ (state : State). IsFilmUpTo 200 state.film) began c.in_ok-draft.ensures.draft.state.film in
    let scenes : length c.in_ok-draft.draft.casts.items ≡ length (film_of c.args.inst.now).casts = ap (λ (state : State). length state.film.casts) began in
    let actors : length c.in_ok-draft.draft.rates.items ≡ length (film_of c.args.inst.now).rates = ap (λ (state : State). length state.film.rates) began in
    let most : c.len.result + c.len-2.result ≡ length (film_of c.args.inst.now).casts + length (film_of c.args.inst.now).rates = omega (arith, scenes, actors) in
    let ended : draft_state c.take_steps.new.draft ≡ reduced (film_of c.args.inst.now) = c.in_ok-take_steps.ensures.steps ∙ (λ i. after_steps (most i) (began i)) in
    IfOk-weaker c.finished.result (λ r. reduced_data r ≡ draft_state c.take_steps.new.draft) (λ r. StandsFor film (reduced_data r))
    (λ r same. subst (StandsFor film) (sym (same ∙ ended)) (c.the_classes_stand_for_the_film.ensures.stands film is)) c.finished.ensures.classes
