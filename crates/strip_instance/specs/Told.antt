-- What a fault of an instance text tells, and the sentence that says it.
use Rattle.std.specs.Prelude.{ℕ, List, codes, Option, None, Some}
use Rattle.strip_text.specs.Told.{ToldData, column_sentence, field_sentence, row_sentence, told_at}
use Rattle.strip_instance.specs.Fault.{FaultData, Empty, BadHeader, NoRateRow, Width, BadName, DuplicateScene, DuplicateActor, BadDays, BadRate, BadHold, BadMark, BadBefore, Cycle, NoScene, TooManyScenes, TooManyActors, NotUtf8, Memory}

-- each fault's own name, its row first and its column second, and the names of a cycle's scenes; want of memory is
-- no fault of a text
abbrev pub told_of : FaultData → Option ToldData
told_of Empty = told_at (codes "Empty") None None
told_of BadHeader = told_at (codes "BadHeader") None None
told_of NoRateRow = told_at (codes "NoRateRow") None None
told_of (Width row) = told_at (codes "Width") (Some row) None
told_of (BadName row col) = told_at (codes "BadName") (Some row) (Some col)
told_of (DuplicateScene row) = told_at (codes "DuplicateScene") (Some row) None
told_of (DuplicateActor col) = told_at (codes "DuplicateActor") None (Some col)
told_of (BadDays row) = told_at (codes "BadDays") (Some row) None
told_of (BadRate col) = told_at (codes "BadRate") None (Some col)
told_of (BadHold col) = told_at (codes "BadHold") None (Some col)
told_of (BadMark row col) = told_at (codes "BadMark") (Some row) (Some col)
told_of (BadBefore row) = told_at (codes "BadBefore") (Some row) None
told_of (Cycle row scenes names) = Some (record { name = codes "Cycle"; first = Some row; second = None; names = names })
told_of NoScene = told_at (codes "NoScene") None None
told_of TooManyScenes = told_at (codes "TooManyScenes") None None
told_of TooManyActors = told_at (codes "TooManyActors") None None
told_of (NotUtf8 row col) = told_at (codes "NotUtf8") (Some row) (Some col)
told_of Memory = None

abbrev pub sentence : FaultData → List ℕ
sentence Empty = codes "there is no row"
sentence BadHeader = codes "row 1 doesn't begin with scene,days"
sentence NoRateRow = codes "there is no row of rates"
sentence (Width row) = row_sentence row (codes " has another width than row 1")
sentence (BadName row col) = field_sentence row col (codes ": not a name")
sentence (DuplicateScene row) = row_sentence row (codes ": an earlier scene's name")
sentence (DuplicateActor col) = column_sentence col (codes ": an earlier actor's name")
sentence (BadDays row) = row_sentence row (codes ": not a number of days")
sentence (BadRate col) = column_sentence col (codes ": not a rate")
sentence (BadHold col) = column_sentence col (codes ": not a hold rate")
sentence (BadMark row col) = field_sentence row col (codes ": not a mark")
sentence (BadBefore row) = row_sentence row (codes ": not a pair of scenes")
sentence (Cycle row scenes names) = row_sentence row (codes ": scenes that must come before one another")
sentence NoScene = codes "there is no scene"
sentence TooManyScenes = codes "there are too many scenes"
sentence TooManyActors = codes "there are too many actors"
sentence (NotUtf8 row col) = field_sentence row col (codes ": not UTF-8")
sentence Memory = codes "out of memory"
