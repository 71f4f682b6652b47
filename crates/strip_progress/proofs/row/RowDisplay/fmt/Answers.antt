use Rattle.std.proofs.Common.{ℕ, List, ◌++◌, codes, subst}
use Rattle.std.specs.Fmt.{HasWritten, decimal}
use Rattle.strip_progress.specs.Row.{standing_text}
use Rattle.strip_progress.proofs.row.RowDisplay.fmt.Goals as goal

pub returns-clause-writes : goal.returns-clause-writes
returns-clause-writes g c plain ok =
    let row = c.args.self.now in
    subst (λ (word : List ℕ). HasWritten {W = g.row.W.Denot} g.W.Write.write_str_gives c.args.f.now
    (decimal row.begun ++ (codes " of " ++ (decimal row.wanted ++ (codes " tasks begun, by " ++ (decimal row.workers ++ (codes " " ++ (word ++ (codes ": " ++ standing_text row.standing))))))))
    c.write.new.self)
    c.workers_word-word.ensures (c.write.ensures.writes plain ok)
