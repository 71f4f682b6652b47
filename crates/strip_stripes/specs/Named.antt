-- The name of no words.
use Rattle.std.specs.Prelude.{[]}
use Rattle.strip_book.specs.Pass.{TableData}
use Rattle.strip_book.specs.Rule.{no_search}

abbrev pub no_table : TableData
no_table = record {
  words = record { words = 0; slots = 0; views_name = 0; atom = 0; block = 0; offset = 0; slot_names = [] };
  search = no_search;
}
