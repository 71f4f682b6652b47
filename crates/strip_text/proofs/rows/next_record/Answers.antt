use Rattle.csv.specs.Records.{fields_of}
use Rattle.std.proofs.Common.{true, false}
use Rattle.strip_text.proofs.Taken.{Reads, finds_none, given_as, reads_on, reads_so, takes_first}
use Rattle.strip_text.proofs.rows.next_record.Goals as goal

pub returns-clause-found : goal.returns-clause-found
returns-clause-found c = λ found.
    let a = c.args.reader.now in
    let b = c.read_byte_record.new.self in
    let fields = fields_of c.read_byte_record.new.row in
    let told = c.read_byte_record.ensures in
    let reads = given_as (Reads a b fields) _ c.read_byte_record.result c.map_err.result true c.map_err.ensures.cases c.map_err.ensures.variant
    (reads_so a b fields c.read_byte_record.result c.requires told.reads told.goes told.flexible told.ready) found in
    (reads_on a b fields c.requires reads, takes_first a b fields c.requires reads.read)

pub returns-clause-ended : goal.returns-clause-ended
returns-clause-ended c = λ ended.
    let a = c.args.reader.now in
    let b = c.read_byte_record.new.self in
    let fields = fields_of c.read_byte_record.new.row in
    let told = c.read_byte_record.ensures in
    let reads = given_as (Reads a b fields) _ c.read_byte_record.result c.map_err.result false c.map_err.ensures.cases c.map_err.ensures.variant
    (reads_so a b fields c.read_byte_record.result c.requires told.reads told.goes told.flexible told.ready) ended in
    finds_none a b fields c.requires reads.read
