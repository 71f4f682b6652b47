-- The words of `solve`, and the job that they name.
use Rattle.std.specs.Prelude.{◌≡◌, ◌↔◌, ℕ, Bool, true, if◌then◌else◌, Option, None, Some, List, [], ◌∷◌, Any, Contains, codes}
use Rattle.strip_words.specs.Words.{Word, Command, Item, Flag, IsSpelled, operands_of}
use Rattle.strip_words.specs.Options.{NumberOption, FreeOption, ChoiceOption, Gives, IsLeftOut, IsChosen, IsGiven, IsPicked}
use Rattle.strip_model.specs.declared.kind.Kind.{Kind}
use Rattle.strip_model.specs.declared.kind.Kind.TheVariants.{Plain, Pairs, Groups, Arrivals}

abbrev pub workers_option : NumberOption
workers_option = record { name = codes "--workers"; least = 1; most = 64; default = 1 }

abbrev pub nodes_option : NumberOption
nodes_option = record { name = codes "--nodes"; least = 1; most = 16777216; default = 1000000 }

-- the same, with fewer lines by default where the program chooses the bounds and the steps
abbrev pub nodes_for : Bool → NumberOption
nodes_for auto = if auto then record nodes_option { default = 20000 } else nodes_option

abbrev pub table_option : NumberOption
table_option = record { name = codes "--table"; least = 64; most = 4194304; default = 65536 }

abbrev pub tries_option : FreeOption
tries_option = record { name = codes "--tries"; least = 0; most = 100000000 }

abbrev pub steps_option : FreeOption
steps_option = record { name = codes "--steps"; least = 1; most = 1000 }

abbrev pub bounds_option : ChoiceOption
bounds_option = record { name = codes "--bounds"; choices = codes "plain" ∷ codes "pairs" ∷ codes "groups" ∷ codes "arrivals" ∷ []; default = codes "pairs" }

abbrev pub proof_flag : Word
proof_flag = codes "--proof"

abbrev pub progress_flag : Word
progress_flag = codes "--progress"

abbrev pub steal_flag : Word
steal_flag = codes "--steal"

abbrev pub auto_flag : Word
auto_flag = codes "--auto"

-- as many workers as there are processors
abbrev pub all_workers : Word
all_workers = codes "auto"

abbrev pub solve : Command
solve = record {
  word = codes "solve";
  operands = 1;
  valued = workers_option.name ∷ nodes_option.name ∷ table_option.name ∷ tries_option.name ∷ steps_option.name ∷ bounds_option.name ∷ [];
  flags = proof_flag ∷ progress_flag ∷ steal_flag ∷ auto_flag ∷ [];
}

-- the word for a static bound
abbrev pub bound_word : Kind → Word
bound_word Plain = codes "plain"
bound_word Pairs = codes "pairs"
bound_word Groups = codes "groups"
bound_word Arrivals = codes "arrivals"

-- a job to solve a file: how many workers, or else as many as there are processors, the greatest number of lines, the
-- table's entries, how often the start is varied where the words say it, in how many steps the bound is raised first,
-- where the words say it, the static bound, whether line rows are written, whether it is told on standard error how the
-- search gets on, whether workers have queues of tasks and take from those of others too, and whether the program chooses
-- the bounds and the steps
pub record SolveData : Type 0 where
  pub file : Word
  pub workers : Option ℕ
  pub nodes : ℕ
  pub table : ℕ
  pub tries : Option ℕ
  pub steps : Option ℕ
  pub kind : Kind
  pub proof : Bool
  pub progress : Bool
  pub steal : Bool
  pub auto : Bool

-- how many workers the items say: a number, or that they are as many as there are processors
abbrev pub AreWorkers : List Item → Option ℕ → Type 0
AreWorkers items None = Any (Gives workers_option.name all_workers) items
AreWorkers items (Some n) = IsChosen workers_option items n

-- the items say nothing of what `--auto` leaves to the program
pub record LeavesOpen (items : List Item) : Type 0 where
  pub table : IsLeftOut table_option.name items
  pub steps : IsLeftOut steps_option.name items
  pub bounds : IsLeftOut bounds_option.name items
  pub steal : ¬ Contains items (Flag steal_flag)

-- the items and what follows them say this job
pub record SayJob (items : List Item) (rest : Option (List Word)) (job : SolveData) : Type 0 where
  pub file : operands_of items rest ≡ job.file ∷ []
  pub workers : AreWorkers items job.workers
  pub nodes : IsChosen (nodes_for job.auto) items job.nodes
  pub table : IsChosen table_option items job.table
  pub tries : IsGiven tries_option items job.tries
  pub steps : IsGiven steps_option items job.steps
  pub kind : IsPicked bounds_option items (bound_word job.kind)
  pub proof : (job.proof ≡ true) ↔ Contains items (Flag proof_flag)
  pub progress : (job.progress ≡ true) ↔ Contains items (Flag progress_flag)
  pub steal : (job.steal ≡ true) ↔ Contains items (Flag steal_flag)
  pub auto : (job.auto ≡ true) ↔ Contains items (Flag auto_flag)
  pub chosen : job.auto ≡ true → LeavesOpen items

-- the words name this job to solve
abbrev pub NameSolve : List Word → SolveData → Type 0
NameSolve words job = (items : List Item) × (rest : Option (List Word)) × IsSpelled solve words items rest
    × SayJob items rest job
