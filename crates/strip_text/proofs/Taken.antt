-- What a read of a record takes from the records that are left.
use Rattle.std.proofs.Common.{◌≡◌, ◌∙◌, ℕ, Bool, true, false, not, ◌==◌, ◌&&◌, List, [], ◌∷◌, map, Option, None, Some, Bor, Result, Ok, Err, IfOk, OnOk, MatchResult, refl, sym, ap, subst, inl, if◌then◌else◌}
use Rattle.std.specs.Result.{is_ok}
use Rattle.std.proofs.lemmas.Bool.{cond-false}
use Rattle.csv.specs.Machine.{Read}
use Rattle.csv.specs.Reading.{ReadRecord, Reached, Ready, buffered_of, default_config, has_failed, is_flexible, reader_trim, strip_bom, took_first, unread_of}
use Rattle.csv.specs.declared.reader.Reader.{Reader}
use Rattle.csv.specs.declared.reader.Trim.TheVariants as trim
use Rattle.csv.proofs.ReadFacts.{rows-end, rows-more}
use Rattle.strip_text.specs.Field.{Field, trimmed}
use Rattle.strip_text.specs.Reader.{IsReading, bytes_left, left_of, records_in, records_where_told}
use Rattle.strip_text.proofs.Records.{records_in-first, records_in-none}

abbrev Source : Type 0
Source = Reader (Bor (List ℕ))

abbrev known : Bor (List ℕ) → Option (List ℕ)
known bytes = Some bytes.now

-- a reader over memory knows what it has left
pub bytes_known : (a : Source) → has_failed a ≡ false → (bytes : List ℕ) × (bytes_left a ≡ Some bytes)
bytes_known a going =
    let found = either (not a.bom_checked && (a.at == 0) && (a.filled == 0)) in
    (found.0, cond-false (has_failed a) None (unread_of known a) going ∙ found.1)
  where
    either : (start : Bool) → (bytes : List ℕ) × ((if start then Some (strip_bom a.rdr.now) else buffered_of (Some a.rdr.now) a) ≡ Some bytes)
    either true = (_, refl)
    either false = (_, refl)

left_is : (a : Source) (bytes : List ℕ) → bytes_left a ≡ Some bytes → left_of false a ≡ map (map trimmed) (records_in a.state bytes)
left_is a bytes are = ap (λ told. map (map trimmed) (records_where_told a.state told)) are

-- a record that was read is the first of those that were left
pub takes_first : (a b : Source) (fields : List Field) → IsReading a → ReadRecord known a b true fields → left_of false a ≡ map trimmed fields ∷ left_of false b
unfolding Reached
takes_first a b fields is reads =
    let bytes = bytes_known a is.going in
    let rest = rows-more known a b fields default_config a.state bytes.0 bytes.0 [] is.config bytes.1 (refl, refl) reads in
    let read : Read = rest.2.0 in
    let first : records_in a.state bytes.0 ≡ read.0 ∷ records_in read.1 read.2 = records_in-first a.state bytes.0 read rest.2.1 in
    let there : records_in read.1 read.2 ≡ records_in b.state rest.0
    = ap (λ state. records_in state read.2) rest.2.3.0 ∙ ap (λ text. records_in b.state text) rest.2.3.1 in
    left_is a bytes.0 bytes.1 ∙ ap (map (map trimmed)) first
    ∙ ap (λ (list : List (List Field)). map trimmed read.0 ∷ map (map trimmed) list) there
    ∙ ap (λ (f : List Field). map trimmed f ∷ map (map trimmed) (records_in b.state rest.0)) (sym rest.2.2)
    ∙ ap (λ list. map trimmed fields ∷ list) (sym (left_is b rest.0 rest.1))

-- what a read that answered says
pub record Reads (a b : Source) (fields : List Field) (found : Bool) : Type 0 where
  pub read : ReadRecord known a b found fields
  pub goes : has_failed b ≡ has_failed a
  pub flexible : is_flexible b ≡ is_flexible a
  pub first : took_first b ≡ true

pub reads_so : {E : Type 0} (a b : Source) (fields : List Field) (answer : Result Bool E) → IsReading a
    → IfOk answer (λ found. (reader_trim a ≡ trim.None) → Ready a → ReadRecord known a b found fields)
    → OnOk answer (has_failed b ≡ has_failed a) → OnOk answer (is_flexible b ≡ is_flexible a)
    → ((reader_trim a ≡ trim.None) → OnOk answer (took_first b ≡ true)) → IfOk answer (Reads a b fields)
reads_so a b fields (Ok found) is reads goes flexible first =
    record { read = reads is.untrimmed is.ready; goes = goes; flexible = flexible; first = first is.untrimmed }
reads_so a b fields (Err e) is reads goes flexible first = tt

-- a reader that read a record reads on
pub reads_on : (a b : Source) (fields : List Field) → IsReading a → Reads a b fields true → IsReading b
reads_on a b fields is reads = record {
  config = reads.read.2 ∙ is.config;
  untrimmed = reads.read.3 ∙ is.untrimmed;
  flexible = reads.flexible ∙ is.flexible;
  ready = inl reads.first;
  going = reads.goes ∙ is.going;
}

-- where no record was found none was left
pub finds_none : (a b : Source) (fields : List Field) → IsReading a → ReadRecord known a b false fields → left_of false a ≡ []
finds_none a b fields is reads =
    let bytes = bytes_known a is.going in
    left_is a bytes.0 bytes.1
    ∙ ap (map (map trimmed)) (records_in-none a.state bytes.0 (rows-end known a b fields default_config bytes.0 is.config bytes.1 reads))

-- a fact of an answer, at the answer that it is given on as
pub given_as : {D E : Type 0} (P : Bool → Type 0) (Q : E → Type 0) (r : Result Bool E) (given : Result Bool D) (found : Bool)
    → MatchResult r (λ x. given ≡ Ok x) Q → is_ok given ≡ is_ok r → IfOk r P → given ≡ Ok found → P found
given_as P Q (Ok x) given found cases same fact is = subst P (one_answer cases is) fact
  where
    one_answer : given ≡ Ok x → given ≡ Ok found → x ≡ found
    one_answer this that = cc
given_as P Q (Err e) given found cases same fact is = absurd (never (ap is_ok (sym is) ∙ same))
  where
    never : true ≡ false → ⊥
    never same = cc
