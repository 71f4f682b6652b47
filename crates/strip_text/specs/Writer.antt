-- What a writer of csv has written.
use Rattle.std.specs.Prelude.{◌≡◌, ℕ, true, false, List, [], Some, Vec}
use Rattle.std.specs.Option.{unwrap_or}
use Rattle.std.specs.declared.alloc.Global.{Global}
use Rattle.csv.specs.Writing.{default_writer, fields_written, has_written, text_written, with_flexible, writer_setup}
use Rattle.csv.specs.declared.writer.Writer.{Writer}

-- the bytes of the rows so far
abbrev pub bytes_of : Writer (Vec ℕ Global) → List ℕ
bytes_of writer = unwrap_or (text_written (λ bytes. Some bytes.items) writer) []

-- it writes rows of any length, and stands behind a whole row
pub record IsBetweenRows (writer : Writer (Vec ℕ Global)) : Type 0 where
  pub setup : writer_setup writer ≡ with_flexible default_writer true
  pub count : fields_written writer ≡ 0
  pub start : has_written writer ≡ false
