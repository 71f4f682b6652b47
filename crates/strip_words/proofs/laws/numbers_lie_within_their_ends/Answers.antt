use Rattle.std.proofs.Common.{◌≤◌, ℕ, Bool, true, false, Option, None, Some, List, IfSome, inl, inr, arith}
use Rattle.strip_words.specs.Words.{Word, Item, operands_of}
use Rattle.strip_words.specs.Options.{NumberOption, FreeOption, IsChosen, IsGiven}
use Rattle.strip_words.specs.Solve.{AreWorkers, workers_option, nodes_option, nodes_for, table_option, tries_option, steps_option}
use Rattle.strip_words.specs.Gen.{GenData, IsSized, NameFilm}
use Rattle.strip_words.proofs.laws.numbers_lie_within_their_ends.Goals as goal

-- a number that is left out is the default, which lies within the ends
within : (option : NumberOption) (items : List Item) (n : ℕ) → option.least ≤ option.default → option.default ≤ option.most
    → IsChosen option items n → (option.least ≤ n) × (n ≤ option.most)
within option items n low high chosen = elim chosen [
  | inl left_out ↦ (omega (arith, low, left_out.1), omega (arith, high, left_out.1))
  | inr given ↦ given.2.within
]

nodes_within : (auto : Bool) (items : List Item) (n : ℕ) → IsChosen (nodes_for auto) items n → (1 ≤ n) × (n ≤ 16777216)
nodes_within true items n chosen = within (nodes_for true) items n (omega arith) (omega arith) chosen
nodes_within false items n chosen = within (nodes_for false) items n (omega arith) (omega arith) chosen

free : (option : FreeOption) (items : List Item) (n : Option ℕ) → IsGiven option items n → IfSome n (λ n. n ≤ option.most)
free option items None given = tt
free option items (Some n) given = given.2.within.1

free_within : (option : FreeOption) (items : List Item) (n : Option ℕ) → IsGiven option items n
    → IfSome n (λ n. (option.least ≤ n) × (n ≤ option.most))
free_within option items None given = tt
free_within option items (Some n) given = given.2.within

workers_within : (items : List Item) (n : Option ℕ) → AreWorkers items n → IfSome n (λ n. (1 ≤ n) × (n ≤ 64))
workers_within items None given = tt
workers_within items (Some n) given = within workers_option items n (omega arith) (omega arith) given

sized : (operands : List Word) (film : GenData) → NameFilm operands film → IsSized film
sized operands film named = (named.scene_count.within.0, named.scene_count.within.1, named.actor_count.within.1)

pub returns : goal.returns
returns c = record {
  workers = λ words job named. workers_within named.0 job.workers named.3.workers;
  nodes = λ words job named. nodes_within job.auto named.0 job.nodes named.3.nodes;
  table = λ words job named. within table_option named.0 job.table (omega arith) (omega arith) named.3.table;
  tries = λ words job named. free tries_option named.0 job.tries named.3.tries;
  steps = λ words job named. free_within steps_option named.0 job.steps named.3.steps;
  film = λ words film named. sized (operands_of named.0 named.1) film named.3;
  trial = λ words job named.
      let nodes = within nodes_option named.0 job.nodes (omega arith) (omega arith) named.3.nodes in
      let table = within table_option named.0 job.table (omega arith) (omega arith) named.3.table in
      let tries = free tries_option named.0 job.tries named.3.tries in
      let steps = free_within steps_option named.0 job.steps named.3.steps in
      (sized (operands_of named.0 named.1) job.film named.3.film, nodes.0, nodes.1, table.0, table.1, tries, steps);
}
