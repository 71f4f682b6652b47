use Rattle.std.proofs.Common.{◌∙◌, ap, sym}
use Rattle.std.specs.Prelude.{slice_index}
use Rattle.std.specs.Mem.Slots.{slots_items}
use Rattle.strip_book.proofs.Closed.{each_read, longer_read, read_at}
use Rattle.strip_book.proofs.closing.read_lines.Goals as goal

pub loop-number-preserved : goal.loop-number-preserved
loop-number-preserved c =
    let words = slots_items c.args.closed.now.words in
    let set_read = ap (slice_index words) (sym c.set_word.ensures) ∙ read_at words c.set_word.result c.word.result c.word.ensures in
    let bound_read = ap (slice_index words) (sym c.bound_word.ensures) ∙ read_at words c.bound_word.result c.word-in-loop-number.result c.word-in-loop-number.ensures in
    record {
      count = longer_read words c.loop-number.lines.items c.push.new.self.items c.loop-number.number c.word.result c.word-in-loop-number.result c.loop-number.invariant.count
          c.loop-number.invariant.lines set_read bound_read c.in_ok-push.ensures.items;
      lines = each_read words c.loop-number.lines.items c.push.new.self.items c.loop-number.number c.word.result c.word-in-loop-number.result c.loop-number.invariant.count
          c.loop-number.invariant.lines set_read bound_read c.in_ok-push.ensures.items;
    }
