-- Tasks that are asked for.
use Rattle.std.specs.Prelude.{◌≡◌, ◌⊎◌, ◌↔◌, ℕ, ◌<◌, true, length}
use Rattle.strip_front.specs.Front.{FrontData, is_wanted}

-- the front with the tasks asked for of which this holds, beside those that were, and otherwise as it was
pub record MarksMore (before after : FrontData) (Holds : ℕ → Type 0) : Type 0 where
  pub only : after ≡ record before { wanted = after.wanted }
  pub count : length after.wanted ≡ length before.wanted
  pub marked : (task : ℕ) → task < length before.tasks → (is_wanted after task ≡ true)
      ↔ ((is_wanted before task ≡ true) ⊎ Holds task)
