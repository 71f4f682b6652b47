use Rattle.stripboard_cases.proofs.Found.{held_bound}
use Rattle.stripboard_cases.proofs.numbers.bound_of.Goals as goal

pub returns-in-In : goal.returns-in-In
returns-in-In c = held_bound c.args.files.now c.args.bound.now c.in-In.name c.in-In.file c.as_str.result.now c.as_str-in-In.result.now c.number_in_file.result
    c.in-In.is c.as_str.ensures.value c.as_str-in-In.ensures.value c.number_in_file.ensures
