use Rattle.std.proofs.Common.{ℕ, List, ◌++◌, codes, subst}
use Rattle.std.specs.Fmt.{HasWritten}
use Rattle.strip_progress.specs.Row.{standing_text}
use Rattle.strip_progress.proofs.row.StageRowDisplay.fmt.Goals as goal

pub returns-clause-writes : goal.returns-clause-writes
returns-clause-writes g c plain ok =
    subst (λ (word : List ℕ). HasWritten {W = g.row.W.Denot} g.W.Write.write_str_gives c.args.f.now
    (codes "search with " ++ (word ++ (codes " ended: " ++ standing_text c.args.self.now.stage.standing)))
    c.write.new.self)
    c.kind_word-word.ensures (c.write.ensures.writes plain ok)
