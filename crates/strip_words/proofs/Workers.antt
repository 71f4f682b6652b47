-- How many workers words say.
use Rattle.std.proofs.Common.{◌≡◌, ℕ, Option, None, Some, List, Any}
use Rattle.strip_words.specs.Words.{Item, AreDistinct, options_in}
use Rattle.strip_words.specs.Options.{Gives, IsNumber}
use Rattle.strip_words.specs.Solve.{AreWorkers, all_workers, workers_option}
use Rattle.strip_words.proofs.Given.{given_once, not_chosen}

-- the items say no workers
pub no_workers : (value : List ℕ) (items : List Item) → AreDistinct (options_in items) → Any (Gives workers_option.name value) items → ¬ (value ≡ all_workers)
    → ((n : ℕ) → ¬ IsNumber 1 64 value n) → (workers : Option ℕ) → ¬ AreWorkers items workers
no_workers value items distinct given other none None all = other (given_once workers_option.name value all_workers items distinct given all)
no_workers value items distinct given other none (Some n) chosen = not_chosen workers_option value items distinct given none n chosen
