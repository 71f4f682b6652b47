use Rattle.std.proofs.Common.{string_bytes}
use Rattle.strip_answer.specs.Ending.{answer_text}
use Rattle.strip_commands.specs.Price.{IsPriced}
use Rattle.strip_commands.proofs.Films.{film_due, film_is}
use Rattle.strip_commands.proofs.pricing.price_film.Goals as goal

pub price_instance-requires : goal.price_instance-requires
price_instance-requires g c = film_is c.as_str.result.now _ _ c.in_ok-inst.field-0 c.in-Said.inst c.in-Said.is c.in_ok-inst.ensures.given

pub returns-in_ok-price_instance-in-Said-clause-due : goal.returns-in_ok-price_instance-in-Said-clause-due
returns-in_ok-price_instance-in-Said-clause-due g c =
    let answer = c.in_ok-price_instance-in-Said.field-0 in
    film_due IsPriced (string_bytes c.args.names.now.film) _ _ answer.status (answer_text answer) c.as_str.result.now c.in_ok-inst.field-0 c.in-Said.inst c.as_str.ensures.value
    c.in-Said.is c.in_ok-price_instance-in-Said.ensures c.in_ok-inst.ensures.given
