use Rattle.std.proofs.Common.{◌<◌, sym, ◌∙◌, arith}
use Rattle.strip_table.proofs.Made.{made_added}
use Rattle.strip_table.proofs.slot.put_in.Goals as goal

pub returns-clause-few : goal.returns-clause-few
returns-clause-few c = let less : c.args.count.now < 4 = omega (arith, c.if-count-eq-PLACES.false) in omega arith

pub returns-clause-puts : goal.returns-clause-puts
returns-clause-puts c = made_added c.args.slot.now.sets c.args.slot.now.bounds c.args.lines.now (omega arith) (omega arith) c.args.known.now
    c.args.count.now _ (omega arith) (omega arith) (sym c.place_of.ensures ∙ c.in_default.is) c.write.ensures
