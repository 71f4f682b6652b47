use Rattle.std.proofs.Common.{sym}
use Rattle.strip_io.specs.Held.{HeldFile, next_count}
use Rattle.strip_io.specs.Shown.{held_file}
use Rattle.strip_io.proofs.Places.{is_first, is_nowhere, altered, change_none}
use Rattle.strip_io.proofs.table.Table.count_fault.Goals as goal

abbrev failed_once : HeldFile → HeldFile
failed_once file = record file { faults = next_count file.faults }

pub returns-in-Some : goal.returns-in-Some
returns-in-Some c =
    let entry = c.index_mut-entry.result.now in
    let entries = c.self.inside.entries.items in
    let first = is_first c.args.name.now c.deref.result.now entries c.in-Some.place entry c.deref.ensures.value c.in-Some.ensures in
    altered failed_once c.args.name.now entries c.in-Some.place entry (record entry { faults = c.next_count-entry.result }) _ first c.index_mut-entry.ensures.value
    (λ i. record (held_file entry) { faults = c.next_count-entry.ensures i }) c.self.view_is

pub returns-in_default : goal.returns-in_default
returns-in_default c =
    let none = is_nowhere c.args.name.now c.deref.result.now c.self.inside.entries.items c.deref.ensures.value c.in_default.ensures in
    rw (← c.self.view_is) (sym (change_none failed_once c.args.name.now c.self.inside.entries.items none))
