-- The job to solve that words name, and that they name one.
use Rattle.std.proofs.Common.{◌≡◌, ◌≤◌, ℕ, false, true≢false, bytes_eq, List, Option, None, Some, Contains, inl, inr, rules, refl, sym, ap, subst, arith, ◌∙◌}
use Rattle.std.proofs.lemmas.List.Elements.{recursion_from_All}
use Rattle.std.proofs.lemmas.Slice.Eq.{bytes_eq-Decides}
use Rattle.strip_model.specs.declared.kind.Kind.{Kind}
use Rattle.strip_model.specs.declared.kind.Kind.TheVariants.{Plain, Pairs, Groups, Arrivals}
use Rattle.strip_words.specs.Words.{Word, Item, AreDistinct, IsSpelled, options_in}
use Rattle.strip_words.specs.Options.{IsChosen, IsNumber, IsPicked}
use Rattle.strip_words.specs.declared.item.Item.{Item as CodeItem}
use Rattle.strip_words.specs.Shown.{items_data}
use Rattle.strip_words.specs.Solve.{AreWorkers, all_workers, nodes_for, solve, workers_option, table_option, tries_option, steps_option, bounds_option, bound_word, SolveData, SayJob, NameSolve}
use Rattle.strip_model.proofs.Lists.{same_test}
use Rattle.strip_words.proofs.Given.{chosen_once, given_number_once, not_chosen, picked_once}
use Rattle.strip_words.proofs.Spelled.{said}

pub differ : {A : Type 0} (a b : Word) → bytes_eq a b ≡ false → a ≡ b → A
differ a b other same = absurd (true≢false (sym ((bytes_eq-Decides a b).1 same) ∙ other))

pub kind_once : (a b : Kind) → bound_word a ≡ bound_word b → a ≡ b
kind_once Plain Plain same = refl
kind_once Plain Pairs same = differ (bound_word Plain) (bound_word Pairs) refl same
kind_once Plain Groups same = differ (bound_word Plain) (bound_word Groups) refl same
kind_once Plain Arrivals same = differ (bound_word Plain) (bound_word Arrivals) refl same
kind_once Pairs Plain same = differ (bound_word Pairs) (bound_word Plain) refl same
kind_once Pairs Pairs same = refl
kind_once Pairs Groups same = differ (bound_word Pairs) (bound_word Groups) refl same
kind_once Pairs Arrivals same = differ (bound_word Pairs) (bound_word Arrivals) refl same
kind_once Groups Plain same = differ (bound_word Groups) (bound_word Plain) refl same
kind_once Groups Pairs same = differ (bound_word Groups) (bound_word Pairs) refl same
kind_once Groups Groups same = refl
kind_once Groups Arrivals same = differ (bound_word Groups) (bound_word Arrivals) refl same
kind_once Arrivals Plain same = differ (bound_word Arrivals) (bound_word Plain) refl same
kind_once Arrivals Pairs same = differ (bound_word Arrivals) (bound_word Pairs) refl same
kind_once Arrivals Groups same = differ (bound_word Arrivals) (bound_word Groups) refl same
kind_once Arrivals Arrivals same = refl

-- the word of a bound that was picked is one of the choices
pub bound_picked : (items : List Item) (word : Word) → IsPicked bounds_option items word → Contains bounds_option.choices word
bound_picked items word (inl out) = subst (Contains bounds_option.choices) (sym out.1) (1, search rules, refl)
bound_picked items word (inr picked) = picked.1

-- the items that were read say what the words name
pub said_by_items : (words : List Word) (items slice : List CodeItem) (rest : Option (List Word)) (job : SolveData) → slice ≡ items
    → IsSpelled solve words (items_data items) rest → NameSolve words job → SayJob (items_data slice) rest job
said_by_items words items slice rest job same is names =
    subst (λ items. SayJob (items_data items) rest job) (sym same) (said solve refl words (items_data items) rest is (λ items rest. SayJob items rest job) names)

-- the word for all workers is no number
pub no_number : (n : ℕ) → ¬ IsNumber workers_option.least workers_option.most all_workers n
no_number n is =
    let first = (recursion_from_All (λ (byte : ℕ). (48 ≤ byte) × (byte ≤ 57)) all_workers is.digits).0 in
    omega (arith, first.1)

workers_once : (items : List Item) (a b : Option ℕ) → AreDistinct (options_in items) → AreWorkers items a → AreWorkers items b → a ≡ b
workers_once items None None distinct one two = refl
workers_once items None (Some b) distinct one two = absurd (not_chosen workers_option all_workers items distinct one no_number b two)
workers_once items (Some a) None distinct one two = absurd (not_chosen workers_option all_workers items distinct two no_number a one)
workers_once items (Some a) (Some b) distinct one two = ap Some (chosen_once workers_option items a b distinct one two)

pub solve_once : (words : List Word) (a b : SolveData) → NameSolve words a → NameSolve words b → a ≡ b
solve_once words a b (items, rest, spelled, one) names =
    let two = said solve refl words items rest spelled (λ items rest. SayJob items rest b) names in
    let file : a.file ≡ b.file = (let p = one.file in let q = two.file in cc) in
    let workers = workers_once items a.workers b.workers spelled.once one.workers two.workers in
    let auto = same_test a.auto b.auto (λ is. two.auto.1 (one.auto.0 is)) (λ is. one.auto.1 (two.auto.0 is)) in
    let nodes = chosen_once (nodes_for b.auto) items a.nodes b.nodes spelled.once (subst (λ flag. IsChosen (nodes_for flag) items a.nodes) auto one.nodes) two.nodes in
    let table = chosen_once table_option items a.table b.table spelled.once one.table two.table in
    let tries = given_number_once tries_option items a.tries b.tries spelled.once one.tries two.tries in
    let steps = given_number_once steps_option items a.steps b.steps spelled.once one.steps two.steps in
    let kind = kind_once a.kind b.kind (picked_once bounds_option items (bound_word a.kind) (bound_word b.kind) spelled.once one.kind two.kind) in
    let proof = same_test a.proof b.proof (λ is. two.proof.1 (one.proof.0 is)) (λ is. one.proof.1 (two.proof.0 is)) in
    let progress = same_test a.progress b.progress (λ is. two.progress.1 (one.progress.0 is)) (λ is. one.progress.1 (two.progress.0 is)) in
    let steal = same_test a.steal b.steal (λ is. two.steal.1 (one.steal.0 is)) (λ is. one.steal.1 (two.steal.0 is)) in
    λ i. record {
      file = file i;
      workers = workers i;
      nodes = nodes i;
      table = table i;
      tries = tries i;
      steps = steps i;
      kind = kind i;
      proof = proof i;
      progress = progress i;
      steal = steal i;
      auto = auto i;
    }
