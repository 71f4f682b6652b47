-- The rule of a queue, which holds between any two steps of any passes.
use Rattle.std.specs.Prelude.{◌≡◌, ⊤, ℕ, ◌+◌, ◌<◌, ◌==◌, ◌⊎◌, true, false, List, [], ◌∷◌, ◌++◌, Option, Some, None, count_by}
use mathlib.Core.Option.{some}
use lib.ListN.{get_elem?}
use Rattle.strip_steal.specs.declared.share.Share.{Share}

-- how often the number stands in the list
abbrev pub times : ℕ → List ℕ → ℕ
times number numbers = count_by (λ other. other == number) numbers

-- the numbers among the entries of a queue
abbrev pub numbers_in : List (Option ℕ) → List ℕ
numbers_in [] = []
numbers_in (None ∷ entries) = numbers_in entries
numbers_in (Some number ∷ entries) = number ∷ numbers_in entries

-- the numbers stand in the list in this order
abbrev pub AreInOrder : List ℕ → List ℕ → Type 0
AreInOrder [] others = ⊤
AreInOrder (number ∷ numbers) [] = ⊥
AreInOrder (number ∷ numbers) (other ∷ others) = ((number ≡ other) × AreInOrder numbers others)
    ⊎ AreInOrder (number ∷ numbers) others

-- what a number of each share adds up to
abbrev pub total : (Share → ℕ) → List Share → ℕ
total amount [] = 0
total amount (share ∷ shares) = amount share + total amount shares

-- the weight of the first pass, and so that of all passes together
abbrev pub full_weight : ℕ
full_weight = 4294967296

abbrev pub weight_of : Share → ℕ
weight_of share = share.weight

-- the first pass: nothing was put yet, and nothing taken
abbrev pub first_share : Share
first_share = record { weight = full_weight; put = []; taken = []; ended = false; has_joined = false }

-- a share of a queue into which these entries were put, of which some are gone and the others are there: where an
-- end was taken with it, no number is there; and what a pass that took in no other one has taken was taken in the
-- order of putting
pub record Fits (entries gone items : List (Option ℕ)) (share : Share) : Type 0 where
  pub put : share.put ≡ entries
  pub ended : share.ended ≡ true → numbers_in items ≡ []
  pub order : share.has_joined ≡ false → AreInOrder share.taken (numbers_in gone)

-- Those that were put are those that are gone and then those that are there. The numbers that all passes have taken
-- together are those that are gone, each as often as it was put
pub record IsQueue (items : List (Option ℕ)) (shares : List Share) : Type 0 where
  pub put : List (Option ℕ)
  pub gone : List (Option ℕ)
  pub all : gone ++ items ≡ put
  pub whole : total weight_of shares ≡ full_weight
  pub fits : (port : ℕ) (share : Share) → get_elem? shares port ≡ some share → 0 < share.weight
      → Fits put gone items share
  pub spent : (port : ℕ) (share : Share) → get_elem? shares port ≡ some share → share.weight ≡ 0 → share.taken ≡ []
  pub balance : (number : ℕ) → total (λ share. times number share.taken) shares ≡ times number (numbers_in gone)
