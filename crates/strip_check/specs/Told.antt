-- What a reason tells.
use Rattle.std.specs.Prelude.{ℕ, List, [], codes, Option, None, Some}
use Rattle.strip_text.specs.Told.{ToldData}
use Rattle.strip_check.specs.declared.verdict.Reason.{Reason}
use Rattle.strip_check.specs.declared.verdict.Reason.TheVariants.{BadSet, BrokenPair, NotAnOrder, RootBound, StatusWrong, Unjustified, WrongCost}

-- a name, and the numbers that are told
abbrev pub told : List ℕ → Option ℕ → Option ℕ → ToldData
told name first second = record { name = name; first = first; second = second; names = [] }

-- each reason's own name and its numbers
abbrev pub told_of : Reason → ToldData
told_of NotAnOrder = told (codes "NotAnOrder") None None
told_of (BrokenPair pair) = told (codes "BrokenPair") (Some pair) None
told_of (WrongCost found) = told (codes "WrongCost") (Some found) None
told_of (BadSet line) = told (codes "BadSet") (Some line) None
told_of (Unjustified line justified) = told (codes "Unjustified") (Some line) (Some justified)
told_of (RootBound known) = told (codes "RootBound") (Some known) None
told_of StatusWrong = told (codes "StatusWrong") None None
