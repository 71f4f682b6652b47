use Rattle.std.proofs.Common.{◌≡◌, ◌↔◌, Bool, true, false, List, ap, sym, ◌∙◌}
use Rattle.strip_words.specs.Jobs.{JobData, NameJob, NameNoJob, Solve, Price, Arrange, Check, Convert, Dood, Sheet, Board, Gen, Trial}
use Rattle.strip_words.specs.Shown.{job_data, texts}
use Rattle.strip_words.specs.Words.{Word}
use Rattle.stripboard.specs.Asking.{AskForProgress, is_told}
use Rattle.stripboard.proofs.asking.ask_for_progress.Goals as goal

-- the job that the words name is one that is told of where they ask for it
asks : (words : List Word) (job : JobData) → NameJob words job → is_told job ≡ true → AskForProgress words
asks words (Solve job) names told = (job, names, told)
asks words (Price file) names told = absurd (let e : false ≡ true = told in cc)
asks words (Arrange files) names told = absurd (let e : false ≡ true = told in cc)
asks words (Check files) names told = absurd (let e : false ≡ true = told in cc)
asks words (Convert files) names told = absurd (let e : false ≡ true = told in cc)
asks words (Dood files) names told = absurd (let e : false ≡ true = told in cc)
asks words (Sheet files) names told = absurd (let e : false ≡ true = told in cc)
asks words (Board files) names told = absurd (let e : false ≡ true = told in cc)
asks words (Gen film) names told = absurd (let e : false ≡ true = told in cc)
asks words (Trial job) names told = absurd (let e : false ≡ true = told in cc)

is_asked : (words : List Word) (job : JobData) (answer : Bool) → answer ≡ is_told job → NameJob words job
    → ((a b : JobData) → NameJob words a → NameJob words b → a ≡ b) → (answer ≡ true) ↔ AskForProgress words
is_asked words job answer is names one =
    (λ yes. asks words job names (sym is ∙ yes), λ asked. is ∙ ap is_told (one job (Solve asked.0) names asked.1) ∙ asked.2)

pub returns-in-Ok : goal.returns-in-Ok
returns-in-Ok c =
    is_asked (texts c.args.words.now) (job_data c.in-Ok.job) c.is_told.result c.is_told.ensures c.in-Ok.ensures.named (c.words_name_one_job.ensures (texts c.args.words.now))

-- words that name no job ask for nothing
asks_nothing : (words : List Word) → NameNoJob words → (false ≡ true) ↔ AskForProgress words
asks_nothing words none = (λ yes. absurd (let e : false ≡ true = yes in cc), λ asked. absurd (none (Solve asked.0) asked.1))

pub returns-in-Err-BadWords : goal.returns-in-Err-BadWords
returns-in-Err-BadWords c = asks_nothing (texts c.args.words.now) (c.in-Err-BadWords.ensures.bad c.in-Err-BadWords.field-0-is)
