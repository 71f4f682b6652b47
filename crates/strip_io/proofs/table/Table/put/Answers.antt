use Rattle.strip_io.proofs.Places.{is_first, is_nowhere, changed, added}
use Rattle.strip_io.proofs.table.Table.put.Goals as goal

pub returns-in-Some-clause-ok : goal.returns-in-Some-clause-ok
returns-in-Some-clause-ok c =
    let entry = c.index_mut.result.now in
    let entries = c.self.inside.entries.items in
    let first = is_first c.args.name.now c.deref.result.now entries c.in-Some.place entry c.deref.ensures.value c.in-Some.ensures in
    changed c.args.name.now c.args.bytes.now entries c.in-Some.place entry c.in_ok-bytes.bytes _ first c.index_mut.ensures.value c.in_ok-bytes.ensures.items c.self.view_is

pub returns-clause-ok : goal.returns-clause-ok
returns-clause-ok c =
    let none = is_nowhere c.args.name.now c.deref.result.now c.self.inside.entries.items c.deref.ensures.value c.in_default.ensures in
    added c.args.name.now c.args.bytes.now c.self.inside.entries.items c.push.new.self.items _ _ none c.in_ok-push.ensures.items
    (λ i. record { name = c.in_ok-name.ensures.ok i; bytes = c.in_ok-bytes.ensures.items i; faults = 0; came = 0 }) c.self.view_is
