use Rattle.std.proofs.Common.{refl, sym}
use Rattle.strip_io.proofs.Places.{entry_first, first_named, found_first, found_none, is_first, is_nowhere}
use Rattle.strip_io.proofs.table.Table.own_name.Goals as goal

pub returns-in_err-place-clause-held : goal.returns-in_err-place-clause-held
returns-in_err-place-clause-held c =
    let none = is_nowhere c.args.name.now c.deref.result.now c.self.inside.entries.items c.deref.ensures.value c.in_err-place.ensures in
    rw (c.from_residual.ensures, ← c.self.view_is, found_none c.args.name.now c.self.inside.entries.items none) refl

pub returns-clause-held : goal.returns-clause-held
returns-clause-held c =
    let entry = c.index.result.now in
    let first = is_first c.args.name.now c.deref.result.now c.self.inside.entries.items c.in_ok-place.place entry c.deref.ensures.value c.in_ok-place.ensures in
    rw (← c.self.view_is, found_first c.args.name.now c.self.inside.entries.items c.in_ok-place.place entry first) refl

pub returns-clause-same : goal.returns-clause-same
returns-clause-same c =
    let entry = c.index.result.now in
    let first = is_first c.args.name.now c.deref.result.now c.self.inside.entries.items c.in_ok-place.place entry c.deref.ensures.value c.in_ok-place.ensures in
    first_named c.args.name.now c.self.inside.entries.items c.in_ok-place.place entry first c.index.ensures

pub returns-clause-entry : goal.returns-clause-entry
returns-clause-entry c =
    let entry = c.index.result.now in
    let first = is_first c.args.name.now c.deref.result.now c.self.inside.entries.items c.in_ok-place.place entry c.deref.ensures.value c.in_ok-place.ensures in
    sym (rw (← c.self.view_is) (entry_first c.args.name.now c.self.inside.entries.items c.in_ok-place.place entry first))
