-- The code's types as the definitions see them.
use Rattle.std.specs.Prelude.{ℕ, Option, None, Some, List, map, String, string_bytes}
use Rattle.std.specs.Borrow.{Bor}
use Rattle.std.specs.List.{filter_map}
use Rattle.std.specs.declared.alloc.Global.{Global}
use Rattle.strip_words.specs.Words.{Word, Command as CommandData, Item as ItemData, Operand as AnOperand, Joined as AJoined, Apart as AnApart, Flag as AFlag}
use Rattle.strip_words.specs.Options.{NumberOption as NumberData, FreeOption as FreeData, ChoiceOption as ChoiceData}
use Rattle.strip_words.specs.Solve.{SolveData}
use Rattle.strip_words.specs.Plans.{PlanFilesData}
use Rattle.strip_words.specs.Gen.{GenData, TrialData}
use Rattle.strip_words.specs.Jobs.{JobData, Solve as ToSolve, Price as ToPrice, Arrange as ToArrange, Check as ToCheck, Convert as ToConvert, Dood as ToDood, Sheet as ToSheet, Board as ToBoard, Gen as ToGen, Trial as ToTrial}
use Rattle.strip_words.specs.declared.command.Command.{Command}
use Rattle.strip_words.specs.declared.command.NumberOption.{NumberOption}
use Rattle.strip_words.specs.declared.command.FreeOption.{FreeOption}
use Rattle.strip_words.specs.declared.command.ChoiceOption.{ChoiceOption}
use Rattle.strip_words.specs.declared.command.CommandOption.{CommandOption}
use Rattle.strip_words.specs.declared.command.CommandOption.TheVariants.{Number, Free, Choice, Flag as FlagOption}
use Rattle.strip_words.specs.declared.solve.SolveJob.{SolveJob}
use Rattle.strip_words.specs.declared.plans.PlanFiles.{PlanFiles}
use Rattle.strip_words.specs.declared.making.GenJob.{GenJob}
use Rattle.strip_words.specs.declared.making.TrialJob.{TrialJob}
use Rattle.strip_words.specs.declared.jobs.Job.{Job}
use Rattle.strip_words.specs.declared.jobs.Job.TheVariants.{Solve, Price, Arrange, Check, Convert, Dood, Sheet, Board, Gen, Trial}
use Rattle.strip_words.specs.declared.item.Item.{Item}
use Rattle.strip_words.specs.declared.item.Item.TheVariants.{Operand, Joined, Apart, Flag}

-- the words as their bytes
abbrev pub texts : List (String Global) → List Word
texts words = map string_bytes words

abbrev pub strs : List (Bor (List ℕ)) → List Word
strs words = map (λ word. word.now) words

abbrev pub valued_name : CommandOption → Option Word
valued_name (Number option) = Some option.name.now
valued_name (Free option) = Some option.name.now
valued_name (Choice option) = Some option.name.now
valued_name (FlagOption name) = None

abbrev pub flag_name : CommandOption → Option Word
flag_name (Number option) = None
flag_name (Free option) = None
flag_name (Choice option) = None
flag_name (FlagOption name) = Some name.now

abbrev pub number_data : NumberOption → NumberData
number_data option = record { name = option.name.now; least = option.least; most = option.most; default = option.default }

abbrev pub free_data : FreeOption → FreeData
free_data option = record { name = option.name.now; least = option.least; most = option.most }

abbrev pub choice_data : ChoiceOption → ChoiceData
choice_data option = record { name = option.name.now; choices = strs option.choices.now; default = option.default.now }

abbrev pub command_data : Command → CommandData
command_data command = record {
  word = command.word.now;
  operands = command.operands;
  valued = filter_map valued_name command.options.now;
  flags = filter_map flag_name command.options.now;
}

abbrev pub item_data : Item → ItemData
item_data (Operand word) = AnOperand word.now
item_data (Joined name value) = AJoined name.now value.now
item_data (Apart name value) = AnApart name.now value.now
item_data (Flag name) = AFlag name.now

abbrev pub items_data : List Item → List ItemData
items_data items = map item_data items

-- the words behind `--`
abbrev pub rest_data : Option (Bor (List (String Global))) → Option (List Word)
rest_data None = None
rest_data (Some words) = Some (texts words.now)

-- the job to solve, with its file as bytes
abbrev pub solve_data : SolveJob → SolveData
solve_data job = record {
  file = string_bytes job.file;
  workers = job.workers;
  nodes = job.nodes;
  table = job.table;
  tries = job.tries;
  steps = job.steps;
  kind = job.kind;
  proof = job.proof;
  progress = job.progress;
  steal = job.steal;
  auto = job.auto;
}

-- a film's file and a plan's, as bytes
abbrev pub plan_files_data : PlanFiles → PlanFilesData
plan_files_data files = record { film = string_bytes files.film; plan = string_bytes files.plan }

-- a film that is made from a number, and a trial of one
abbrev pub gen_data : GenJob → GenData
gen_data job = record { number = job.number; scenes = job.scenes; actors = job.actors }

abbrev pub trial_data : TrialJob → TrialData
trial_data job = record { film = gen_data job.film; nodes = job.nodes; table = job.table; tries = job.tries; steps = job.steps; kind = job.kind }

abbrev pub job_data : Job → JobData
job_data (Solve job) = ToSolve (solve_data job)
job_data (Price file) = ToPrice (string_bytes file.film)
job_data (Arrange files) = ToArrange (plan_files_data files)
job_data (Check files) = ToCheck (plan_files_data files)
job_data (Convert files) = ToConvert (plan_files_data files)
job_data (Dood files) = ToDood (plan_files_data files)
job_data (Sheet files) = ToSheet (plan_files_data files)
job_data (Board files) = ToBoard (plan_files_data files)
job_data (Gen film) = ToGen (gen_data film)
job_data (Trial job) = ToTrial (trial_data job)
