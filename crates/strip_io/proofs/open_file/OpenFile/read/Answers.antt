use Rattle.std.proofs.Common.{◌<◌, length, rules}
use Rattle.strip_io.proofs.Streams.{has_given}
use Rattle.strip_io.proofs.open_file.OpenFile.read.Goals as goal

pub returns-clause-gave : goal.returns-clause-gave
returns-clause-gave g c = λ text is.
    let room : 0 < length c.read.new.buf = search rules in
    has_given g.F.Read.remaining c.args.self.now.file c.read.new.self text c.args.self.now.at c.in_ok-count.count c.read.new.buf is c.in_ok-count.ensures.bound.0 room
    c.in_ok-count.ensures.bytes.0 c.in_ok-count.ensures.bytes.1
