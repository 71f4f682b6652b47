-- What computes the rows of a literal text, and the text of literal rows.
use Rattle.std.specs.Prelude.{⊤}
use Rattle.std.specs.Str.{chars, is_utf8}
use lib.Utf8.{encode}
use Rattle.std.specs.Fmt.{digits}
use Rattle.csv.specs.Writing.{fields_text, is_blank}
use Rattle.csv.proofs.OnLiterals.{csv_on_literals}

-- a text that is read
unfoldable pub read_on_literals : ⊤
unfolding csv_on_literals is_utf8 chars encode
read_on_literals = tt

-- and one that is written
unfoldable pub written_on_literals : ⊤
unfolding fields_text is_blank digits
written_on_literals = tt
