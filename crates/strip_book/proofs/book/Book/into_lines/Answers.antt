use Rattle.std.proofs.Common.{◌≡◌, ℕ, ◌<◌, Vec, Global, arith, length}
use Rattle.std.specs.Prelude.{slice_index}
use Rattle.std.specs.Mem.Slots.{slots_items}
use Rattle.strip_film.specs.declared.shared.Line.{Line}
use Rattle.strip_lines.specs.Lines.{line_at}
use Rattle.strip_book.specs.Pass.{AreAll, known}
use Rattle.strip_book.specs.Words.{count_word}
use Rattle.strip_book.proofs.Closed.{closes, if_both, line_in, read_at}
use Rattle.strip_book.proofs.book.Book.into_lines.Goals as goal

pub returns : goal.returns
returns c =
    let words = slots_items c.close_with-closed.result.words in
    let head : slice_index words count_word ≡ c.word.result = read_at words count_word c.word.result c.word.ensures in
    if_both (λ (lines : Vec Line Global). length lines.items ≡ c.min-count.result)
    (λ (lines : Vec Line Global). (number : ℕ) → number < c.min-count.result → line_at lines.items number ≡ line_in words number)
    (λ (lines : Vec Line Global). AreAll (known c.args.pass) lines.items)
    (λ lines count each.
    closes c.args.self.table.shared.key c.args.pass.seat.id c.args.pass.seat.me.0 words (slots_items c.close_with-closed.result.slots) c.close_with-closed.ensures.values.2
    c.requires.pass.idle c.requires.full lines.items (omega (arith, count, head, c.min-count.ensures, c.from.ensures, c.args.self.counts))
    (λ number lt. each number (omega (arith, lt, count))))
    c.read_lines-lines.result c.read_lines-lines.ensures.count c.read_lines-lines.ensures.lines
