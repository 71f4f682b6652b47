use Rattle.std.proofs.Common.{◌≡◌, ◌∙◌, ap, arith, inr, length, map, true}
use Rattle.csv.specs.Reading.{with_flexible, reader_state}
use Rattle.csv.specs.declared.parser.State.TheVariants as st
use Rattle.strip_text.specs.Field.{trimmed}
use Rattle.strip_text.specs.Reader.{bytes_left, records_where_told}
use Rattle.strip_text.specs.Rows.{rows_of}
use Rattle.strip_text.proofs.Records.{rows-few}
use Rattle.strip_text.proofs.rows.Rows.new.Goals as goal

pub invariant_of-result : goal.invariant_of-result
invariant_of-result c = λ going.
    let fr = c.from_reader-reader.ensures in
    let e = c.flexible.ensures ∙ ap (λ b. with_flexible b true) c.has_headers.ensures in
    let left : map (map trimmed) (records_where_told (reader_state c.from_reader-reader.result) (bytes_left c.from_reader-reader.result)) ≡ rows_of c.args.text.now
    = ap (λ state. map (map trimmed) (records_where_told state (bytes_left c.from_reader-reader.result))) fr.state
    ∙ ap (λ bytes. map (map trimmed) (records_where_told st.StartRecord bytes)) fr.source in (
      record {
        config = rw e at fr.config ∙ c.new.ensures.config;
        untrimmed = rw e at fr.trim ∙ c.new.ensures.trim;
        flexible = rw e at fr.flexible;
        ready = inr (inr (rw e at fr.has_headers, fr.headers));
        going = fr.fresh;
      },
      omega (arith, ap length left, rows-few c.args.text.now, c.type_inv.text),
    )
