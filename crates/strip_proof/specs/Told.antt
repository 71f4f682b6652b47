-- What a fault of a plan text tells, and the sentence that says it.
use Rattle.std.specs.Prelude.{ℕ, List, codes, Option, None, Some}
use Rattle.strip_text.specs.Told.{ToldData, row_sentence, told_at}
use Rattle.strip_proof.specs.declared.fault.PlanFault.{PlanFault}
use Rattle.strip_proof.specs.declared.fault.PlanFault.TheVariants.{BadRow, Missing, UnknownScene, TooManyLines, Memory}

-- each fault's own name and its row; want of memory is no fault of a text
abbrev pub told_of : PlanFault → Option ToldData
told_of (BadRow row) = told_at (codes "BadRow") (Some row) None
told_of (Missing which) = told_at (codes "Missing") (Some which) None
told_of (UnknownScene row) = told_at (codes "UnknownScene") (Some row) None
told_of TooManyLines = told_at (codes "TooManyLines") None None
told_of Memory = None

abbrev pub sentence : PlanFault → List ℕ
sentence (BadRow row) = row_sentence row (codes " isn't the row that is due there")
sentence (Missing which) = row_sentence which (codes " is missing")
sentence (UnknownScene row) = row_sentence row (codes ": no scene has such a name")
sentence TooManyLines = codes "there are too many lines"
sentence Memory = codes "out of memory"
