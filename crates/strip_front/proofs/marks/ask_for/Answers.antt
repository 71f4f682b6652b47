use Rattle.std.proofs.Common.{◌∙◌, sym, arith}
use Rattle.strip_front.specs.Shown.{front_data}
use Rattle.strip_front.proofs.Asked.{ask_found, ask_nothing, leaves_there}
use Rattle.strip_front.proofs.marks.ask_for.Goals as goal

pub index_mut-requires : goal.index_mut-requires
index_mut-requires c =
    omega (arith, c.requires.wanted, (leaves_there c.args.rest.0 (front_data c.args.front.now).tasks c.in-Some.task (sym c.in-Some.ensures)).0)

pub returns-in-Some : goal.returns-in-Some
returns-in-Some c =
    ask_found (front_data c.args.front.now) c.args.rest.0 c.requires.wanted c.requires.apart c.in-Some.task (sym c.place_of.ensures ∙ c.in-Some.is)

pub returns-in_default : goal.returns-in_default
returns-in_default c = ask_nothing (front_data c.args.front.now) c.args.rest.0 (sym c.in_default.ensures)
