-- What a reader of csv has left.
use Rattle.std.specs.Prelude.{◌≡◌, ℕ, ◌+◌, Bool, true, false, List, [], length, map, Option, Some, None, if◌then◌else◌}
use Rattle.std.specs.Borrow.{Bor}
use Rattle.csv.specs.Reading.{Ready, default_config, has_failed, is_flexible, reader_config, reader_state, reader_trim, records_from, source_of}
use Rattle.csv.specs.declared.parser.State.{State}
use Rattle.csv.specs.declared.reader.Reader.{Reader}
use Rattle.csv.specs.declared.reader.Trim.TheVariants as trim
use Rattle.strip_text.specs.Field.{trimmed}
use Rattle.strip_text.specs.Rows.{Row}

-- the bytes that the reader has still to read, unless it failed
abbrev pub bytes_left : Reader (Bor (List ℕ)) → Option (List ℕ)
bytes_left reader = source_of (λ bytes. Some bytes.now) reader

-- the records of these bytes, read on from a state
abbrev pub records_in : State → List ℕ → List Row
records_in state bytes = records_from default_config (length bytes + 1) state bytes

abbrev pub records_where_told : State → Option (List ℕ) → List Row
records_where_told state None = []
records_where_told state (Some bytes) = records_in state bytes

-- the rows that are left, none where the reading has ended
abbrev pub left_of : Bool → Reader (Bor (List ℕ)) → List Row
left_of ended reader = if ended then [] else map (map trimmed)
    (records_where_told (reader_state reader) (bytes_left reader))

-- it reads each record as it stands, whatever its number of fields, and hasn't failed
pub record IsReading (reader : Reader (Bor (List ℕ))) : Type 0 where
  pub config : reader_config reader ≡ default_config
  pub untrimmed : reader_trim reader ≡ trim.None
  pub flexible : is_flexible reader ≡ true
  pub ready : Ready reader
  pub going : has_failed reader ≡ false
