use Rattle.std.proofs.Common.{ap, sym, subst, refl, Err}
use Rattle.strip_answer.specs.declared.input.Input.TheVariants.{Refused}
use Rattle.strip_answer.specs.Said.{IsFilmGiven, film_said, too_long_told}
use Rattle.strip_answer.proofs.Long.{long_film, long_input}
use Rattle.strip_answer.proofs.film.film_input.Goals as goal

pub returns-in_ok-too_long-in-Err-TooLong-clause-given : goal.returns-in_ok-too_long-in-Err-TooLong-clause-given
returns-in_ok-too_long-in-Err-TooLong-clause-given g c =
    let answer = c.in_ok-too_long-in-Err-TooLong.field-0 in
    let load = c.in-Err-TooLong.ensures in
    long_input c.args.name.now 1_048_576 _ _ (λ text. IsFilmGiven (film_said text) (Refused answer)) (load.too_long (ap Err c.in-Err-TooLong.field-0-is))
    (load.too_many (ap Err c.in-Err-TooLong.field-0-is))
    (λ text long. subst (λ said. IsFilmGiven said (Refused answer)) (sym (long_film text long))
    (c.in_ok-too_long-in-Err-TooLong.ensures.status, too_long_told, refl, c.in_ok-too_long-in-Err-TooLong.ensures.row))
