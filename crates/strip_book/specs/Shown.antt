-- What contracts see of the entries of a pass.
use Rattle.std.specs.Option.{option_map}
use Rattle.strip_film.specs.Shown.{path_data}
use Rattle.strip_book.specs.declared.entry.Entry.{Entry}
use Rattle.strip_book.specs.View.{EntryData}

abbrev pub entry_data : Entry → EntryData
entry_data entry = record { part = entry.part; last = option_map path_data entry.last; number = entry.number }
