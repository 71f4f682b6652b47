use Rattle.strip_answer.proofs.Given.{film_given}
use Rattle.strip_answer.proofs.film.said.Goals as goal

pub returns-in-Ok : goal.returns-in-Ok
returns-in-Ok c =
    film_given c.args.text.now c.in-Ok.inst c.requires c.in-Ok.ensures.read
    (c.what_is_said_keeps_the_limits.ensures c.args.text.now c.in-Ok.inst c.in-Ok.ensures.read)
    (c.what_is_said_has_readable_names.ensures c.args.text.now c.in-Ok.inst c.in-Ok.ensures.read)
