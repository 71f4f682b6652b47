use Rattle.std.proofs.Common.{ℕ, ◌+◌, ◌-◌, ◌^◌, min, sym}
use Rattle.strip_io.specs.Held.{HeldFile}
use Rattle.strip_io.specs.Shown.{held_file}
use Rattle.strip_io.proofs.Places.{is_first, is_nowhere, altered, change_none}
use Rattle.strip_io.proofs.table.Table.count_came.Goals as goal

abbrev gave : ℕ → HeldFile → HeldFile
gave n file = record file { came = min (file.came + n) (2 ^ 64 - 1) }

pub returns-in-Some : goal.returns-in-Some
returns-in-Some c =
    let entry = c.index_mut-entry.result.now in
    let entries = c.self.inside.entries.items in
    let first = is_first c.args.name.now c.deref.result.now entries c.in-Some.place entry c.deref.ensures.value c.in-Some.ensures in
    altered (gave c.args.count) c.args.name.now entries c.in-Some.place entry (record entry { came = c.saturating_add-entry.result }) _ first c.index_mut-entry.ensures.value
    (λ i. record (held_file entry) { came = c.saturating_add-entry.ensures i }) c.self.view_is

pub returns-in_default : goal.returns-in_default
returns-in_default c =
    let none = is_nowhere c.args.name.now c.deref.result.now c.self.inside.entries.items c.deref.ensures.value c.in_default.ensures in
    rw (← c.self.view_is) (sym (change_none (gave c.args.count) c.args.name.now c.self.inside.entries.items none))
