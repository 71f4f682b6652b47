use Rattle.stripboard_cases.proofs.Found.{held_number}
use Rattle.stripboard_cases.proofs.numbers.number_in_file.Goals as goal

pub returns : goal.returns
returns c = held_number c.args.files.now c.args.file.now c.args.name.now c.in_ok-held.held.now c.deref.result.now c.number_named.result
    c.in_ok-held.ensures.0 c.in_ok-held.ensures.1 c.deref.ensures.value c.number_named.ensures
