-- What an entry of the table stands for.
use Rattle.std.specs.Prelude.{string_bytes}
use Rattle.strip_io.specs.Held.{HeldFile}
use Rattle.strip_io.specs.declared.table.Entry.{Entry}

-- the entry as a held file
abbrev pub held_file : Entry → HeldFile
held_file entry = record { name = string_bytes entry.name; bytes = entry.bytes.items; faults = entry.faults; came = entry.came }
