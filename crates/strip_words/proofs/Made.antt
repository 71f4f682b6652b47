-- The film and the trial that words name, and that they name one.
use Rattle.std.proofs.Common.{◌≡◌, ℕ, List, Option, [], ◌∷◌, refl, sym, subst, ◌∙◌}
use Rattle.strip_words.specs.Words.{Word, IsSpelled, operands_of}
use Rattle.strip_words.specs.Options.{IsNumber}
use Rattle.strip_words.specs.declared.item.Item.{Item as CodeItem}
use Rattle.strip_words.specs.Shown.{items_data}
use Rattle.strip_words.specs.Solve.{nodes_option, table_option, tries_option, steps_option, bounds_option, bound_word}
use Rattle.strip_words.specs.Gen.{GenData, NameFilm, NameGen, SayTrial, TrialData, NameTrial, gen_command, trial_command}
use Rattle.strip_words.proofs.Given.{chosen_once, given_number_once, picked_once}
use Rattle.strip_words.proofs.Solving.{kind_once}
use Rattle.strip_words.proofs.Spelled.{said}

-- a word spells one number
number_once : (least most : ℕ) (a b : Word) (m n : ℕ) → a ≡ b → IsNumber least most a m → IsNumber least most b n → m ≡ n
number_once least most a b m n same one two = let p = one.value in let q = two.value in cc

pub film_once : (operands : List Word) (a b : GenData) → NameFilm operands a → NameFilm operands b → a ≡ b
film_once operands a b one two =
    let both : one.number ∷ one.scenes ∷ one.actors ∷ [] ≡ two.number ∷ two.scenes ∷ two.actors ∷ [] = sym one.three ∙ two.three in
    let first : one.number ≡ two.number = cc in
    let second : one.scenes ≡ two.scenes = cc in
    let third : one.actors ≡ two.actors = cc in
    let number = number_once _ _ one.number two.number a.number b.number first one.from_number two.from_number in
    let scenes = number_once _ _ one.scenes two.scenes a.scenes b.scenes second one.scene_count two.scene_count in
    let actors = number_once _ _ one.actors two.actors a.actors b.actors third one.actor_count two.actor_count in
    λ i. record { number = number i; scenes = scenes i; actors = actors i }

-- what the words name is said by the items that were read
pub film_said : (words : List Word) (items : List CodeItem) (rest : Option (List Word)) (operands : List Word) (film : GenData)
    → operands ≡ operands_of (items_data items) rest → IsSpelled gen_command words (items_data items) rest → NameGen words film → NameFilm operands film
film_said words items rest operands film same is names =
    subst (λ ws. NameFilm ws film) (sym same) (said gen_command refl words (items_data items) rest is (λ items rest. NameFilm (operands_of items rest) film) names)

pub trial_said : (words : List Word) (items slice : List CodeItem) (rest : Option (List Word)) (job : TrialData) → slice ≡ items
    → IsSpelled trial_command words (items_data items) rest → NameTrial words job → SayTrial (items_data slice) rest job
trial_said words items slice rest job same is names =
    subst (λ items. SayTrial (items_data items) rest job) (sym same) (said trial_command refl words (items_data items) rest is (λ items rest. SayTrial items rest job) names)

pub gen_once : (words : List Word) (a b : GenData) → NameGen words a → NameGen words b → a ≡ b
gen_once words a b (items, rest, spelled, one) names =
    film_once (operands_of items rest) a b one (said gen_command refl words items rest spelled (λ items rest. NameFilm (operands_of items rest) b) names)

pub trial_once : (words : List Word) (a b : TrialData) → NameTrial words a → NameTrial words b → a ≡ b
trial_once words a b (items, rest, spelled, one) names =
    let two = said trial_command refl words items rest spelled (λ items rest. SayTrial items rest b) names in
    let film = film_once (operands_of items rest) a.film b.film one.film two.film in
    let nodes = chosen_once nodes_option items a.nodes b.nodes spelled.once one.nodes two.nodes in
    let table = chosen_once table_option items a.table b.table spelled.once one.table two.table in
    let tries = given_number_once tries_option items a.tries b.tries spelled.once one.tries two.tries in
    let steps = given_number_once steps_option items a.steps b.steps spelled.once one.steps two.steps in
    let kind = kind_once a.kind b.kind (picked_once bounds_option items (bound_word a.kind) (bound_word b.kind) spelled.once one.kind two.kind) in
    λ i. record { film = film i; nodes = nodes i; table = table i; tries = tries i; steps = steps i; kind = kind i }
