use Rattle.std.proofs.Common.{◌∙◌, refl, inl, sym}
use Rattle.strip_layers.proofs.Sets.{found_set}
use Rattle.strip_layers.proofs.state.Search.open.Goals as goal

pub returns-in-Some-clause-opened : goal.returns-in-Some-clause-opened
returns-in-Some-clause-opened c =
    let some = found_set c.args.set.0 c.in-Some.place c.args.self.now.sheet.lines.items (sym c.place_of.ensures ∙ c.in-Some.is) in
    inl (c.in-Some.place, record { there = some.0; set = some.1 }, refl, refl)
