-- The commands that make a film from a number, `gen` and `trial`, and the jobs that their words name.
use Rattle.std.specs.Prelude.{◌≡◌, ℕ, ◌≤◌, Option, List, [], ◌∷◌, codes}
use Rattle.strip_words.specs.Words.{Word, Command, Item, IsSpelled, operands_of}
use Rattle.strip_words.specs.Options.{IsNumber, IsChosen, IsGiven, IsPicked}
use Rattle.strip_words.specs.Solve.{nodes_option, table_option, tries_option, steps_option, bounds_option, bound_word}
use Rattle.strip_model.specs.declared.kind.Kind.{Kind}

-- a film that is made from a number: how many scenes it has, and how many actors
pub record GenData : Type 0 where
  pub number : ℕ
  pub scenes : ℕ
  pub actors : ℕ

-- as many scenes and actors as an instance may have
abbrev pub IsSized : GenData → Type 0
IsSized film = (1 ≤ film.scenes) × (film.scenes ≤ 200) × (film.actors ≤ 64)

-- the three operands of such a film
pub record NameFilm (operands : List Word) (film : GenData) : Type 0 where
  pub number : Word
  pub scenes : Word
  pub actors : Word
  pub three : operands ≡ number ∷ scenes ∷ actors ∷ []
  pub from_number : IsNumber 0 18446744073709551615 number film.number
  pub scene_count : IsNumber 1 200 scenes film.scenes
  pub actor_count : IsNumber 0 64 actors film.actors

abbrev pub gen_command : Command
gen_command = record { word = codes "gen"; operands = 3; valued = []; flags = [] }

-- the words name this film to print
abbrev pub NameGen : List Word → GenData → Type 0
NameGen words film =
    (items : List Item) × (rest : Option (List Word)) × IsSpelled gen_command words items rest
    × NameFilm (operands_of items rest) film

abbrev pub trial_command : Command
trial_command = record {
  word = codes "trial";
  operands = 3;
  valued = nodes_option.name ∷ table_option.name ∷ tries_option.name ∷ steps_option.name ∷ bounds_option.name ∷ [];
  flags = [];
}

-- a trial of such a film: the greatest number of lines, the table's entries, how often the start is varied where
-- the words say it, in how many steps the bound is raised first, where the words say it, and the static bound
pub record TrialData : Type 0 where
  pub film : GenData
  pub nodes : ℕ
  pub table : ℕ
  pub tries : Option ℕ
  pub steps : Option ℕ
  pub kind : Kind

-- the items and what follows them say this trial
pub record SayTrial (items : List Item) (rest : Option (List Word)) (job : TrialData) : Type 0 where
  pub film : NameFilm (operands_of items rest) job.film
  pub nodes : IsChosen nodes_option items job.nodes
  pub table : IsChosen table_option items job.table
  pub tries : IsGiven tries_option items job.tries
  pub steps : IsGiven steps_option items job.steps
  pub kind : IsPicked bounds_option items (bound_word job.kind)

-- the words name this trial
abbrev pub NameTrial : List Word → TrialData → Type 0
NameTrial words job = (items : List Item) × (rest : Option (List Word)) × IsSpelled trial_command words items rest
    × SayTrial items rest job
