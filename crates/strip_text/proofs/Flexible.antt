-- A writer of rows of any length writes each row as the default one does.
use Rattle.std.proofs.Common.{◌≡◌, ◌≢◌, ◌==◌, ℕ, true, false, length, List, [], ◌∷◌, ◌++◌, Some, Result, Ok, Err, OnOk, MatchResult, Vec, Global, refl, sym, ap, ◌∙◌, if◌then◌else◌}
use Rattle.std.specs.Result.{is_ok}
use Rattle.std.specs.Io.KnownBytes.{Appends}
use Rattle.csv.specs.Writing.{default_writer, escaped, field_text, fields_text, is_blank, needs_quotes, row_body, row_text, with_flexible, writer_setup, fields_written, has_written, text_written}
use Rattle.csv.specs.declared.writer.WriterBuilder.{WriterBuilder}
use Rattle.csv.specs.declared.writer.QuoteStyle.TheVariants as style
use Rattle.csv.specs.declared.writer.Writer.{Writer}
use Rattle.strip_text.specs.Writer.{IsBetweenRows, bytes_of}
use Rattle.strip_text.specs.Field.{Field}
use Rattle.strip_text.specs.Rows.{csv_row}

abbrev pub flexible_writer : WriterBuilder
flexible_writer = with_flexible default_writer true

escaped-same : (field : Field) → escaped flexible_writer field ≡ escaped default_writer field
unfolding escaped
escaped-same [] = refl
escaped-same (byte ∷ rest) = ap (λ (more : List ℕ). if byte == 34 then 34 ∷ byte ∷ more else byte ∷ more) (escaped-same rest)

field-same : (field : Field) → field_text flexible_writer field ≡ field_text default_writer field
field-same field = ap (λ (inner : List ℕ). if needs_quotes default_writer field then 34 ∷ (inner ++ (34 ∷ [])) else field) (escaped-same field)

fields-same : (fields : List Field) → fields_text flexible_writer fields ≡ fields_text default_writer fields
unfolding fields_text
fields-same [] = refl
fields-same (field ∷ rest) = λ i. 44 ∷ (field-same field i ++ fields-same rest i)

body-same : (fields : List Field) → row_body flexible_writer fields ≡ row_body default_writer fields
body-same [] = refl
body-same (field ∷ rest) = λ i. field-same field i ++ fields-same rest i

blank-same : (fields : List Field) → is_blank flexible_writer fields ≡ is_blank default_writer fields
unfolding is_blank
blank-same [] = refl
blank-same (field ∷ []) = ap (λ (text : List ℕ). length text == 0) (field-same field)
blank-same (field ∷ next ∷ rest) = refl

pub row-same : (fields : List Field) → row_text flexible_writer fields ≡ csv_row fields
row-same fields = λ i. body-same fields i ++ ((if blank-same fields i then 34 ∷ 34 ∷ [] else []) ++ (10 ∷ []))

-- what was appended, at an answer that is given on
pub appended : {D E : Type 0} (P : Type 0) (Q : E → Type 0) (r : Result (Unit {0}) E) (given : Result (Unit {0}) D)
    → MatchResult r (λ x. given ≡ Ok x) Q → is_ok given ≡ is_ok r → OnOk r P → OnOk given P
appended P Q (Ok x) (Ok y) cases same fact = fact
appended P Q (Ok x) (Err d) cases same fact = tt
appended P Q (Err e) (Ok y) cases same fact = absurd (never same)
  where
    never : true ≡ false → ⊥
    never same = cc
appended P Q (Err e) (Err d) cases same fact = tt

-- it needs no look at numbers
plain_style : (cfg : WriterBuilder) → cfg ≡ flexible_writer → cfg.style ≢ style.NonNumeric
plain_style cfg is = λ numeric. never (ap (λ (c : WriterBuilder). c.style) (sym is) ∙ numeric)
  where
    never : style.Necessary ≡ style.NonNumeric → ⊥
    never same = cc

-- a row that was written stands behind the bytes so far
pub row_written : {E : Type 0} (a b : Writer (Vec ℕ Global)) (fields : List Field) (answer : Result (Unit {0}) E) → IsBetweenRows a
    → OnOk answer ((fields_written a ≡ 0) → (has_written a ≡ false) → ((writer_setup a).style ≢ style.NonNumeric)
    → Appends (text_written (λ bytes. Some bytes.items) a) (text_written (λ bytes. Some bytes.items) b) (row_text (writer_setup a) fields))
    → OnOk answer (bytes_of b ≡ bytes_of a ++ csv_row fields)
row_written a b fields (Ok _) is told =
    told is.count is.start (plain_style (writer_setup a) is.setup)
    ∙ ap (λ (cfg : WriterBuilder). bytes_of a ++ row_text cfg fields) is.setup ∙ ap (λ (text : List ℕ). bytes_of a ++ text) (row-same fields)
row_written a b fields (Err e) is told = tt
