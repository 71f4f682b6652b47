use Rattle.std.proofs.Common.{refl}
use Rattle.strip_io.proofs.Places.{found_first, is_first, is_nowhere, found_none}
use Rattle.strip_io.proofs.table.Table.bytes.Goals as goal

pub returns-in_err-place : goal.returns-in_err-place
returns-in_err-place c =
    let none = is_nowhere c.args.name.now c.deref.result.now c.self.inside.entries.items c.deref.ensures.value c.in_err-place.ensures in
    rw (c.from_residual.ensures, ← c.self.view_is, found_none c.args.name.now c.self.inside.entries.items none) refl

pub returns : goal.returns
returns c =
    let entry = c.index.result.now in
    let first = is_first c.args.name.now c.deref.result.now c.self.inside.entries.items c.in_ok-place.place entry c.deref.ensures.value c.in_ok-place.ensures in
    rw (← c.self.view_is, found_first c.args.name.now c.self.inside.entries.items c.in_ok-place.place entry first, ← c.index.ensures, c.deref-2.ensures.value) refl
