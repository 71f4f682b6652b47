-- The files that the words of a command name.
use Rattle.std.proofs.Common.{◌≡◌, List, [], ◌∷◌, refl}
use Rattle.strip_words.specs.Words.{Word, operands_of}
use Rattle.strip_words.specs.Plans.{PlanFilesData, NamePlanFiles, plan_command}
use Rattle.strip_words.proofs.Spelled.{said}

pub files_once : (word : Word) (words : List Word) (a b : PlanFilesData) → NamePlanFiles word words a → NamePlanFiles word words b → a ≡ b
files_once word words a b (items, rest, spelled, one) names =
    let two = said (plan_command word) refl words items rest spelled (λ items rest. operands_of items rest ≡ b.film ∷ b.plan ∷ []) names in
    let both : a.film ∷ a.plan ∷ [] ≡ b.film ∷ b.plan ∷ [] = cc in
    let film : a.film ≡ b.film = cc in
    let plan : a.plan ≡ b.plan = cc in
    λ i. record { film = film i; plan = plan i }
