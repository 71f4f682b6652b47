-- Words that ask that it be told how a search gets on.
use Rattle.std.specs.Prelude.{◌≡◌, Bool, true, false, List}
use Rattle.strip_words.specs.Jobs.{JobData, Solve, Price, Arrange, Check, Convert, Dood, Sheet, Board, Gen, Trial}
use Rattle.strip_words.specs.Solve.{NameSolve, SolveData}
use Rattle.strip_words.specs.Words.{Word}

-- they name a job to solve with this option
abbrev pub AskForProgress : List Word → Type 0
AskForProgress words = (job : SolveData) × NameSolve words job × (job.progress ≡ true)

-- a job of which it is told how it gets on: of others than to solve it never is
abbrev pub is_told : JobData → Bool
is_told (Solve job) = job.progress
is_told (Price file) = false
is_told (Arrange files) = false
is_told (Check files) = false
is_told (Convert files) = false
is_told (Dood files) = false
is_told (Sheet files) = false
is_told (Board files) = false
is_told (Gen film) = false
is_told (Trial job) = false
