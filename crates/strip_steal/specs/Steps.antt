-- What each step makes of the share of a pass, and what it tells the pass.
use Rattle.std.specs.Prelude.{◌≡◌, ⊤, ℕ, ◌+◌, ◌-◌, ◌≤◌, true, false, ◌||◌, List, [], ◌∷◌, ◌++◌, ◌<◌, length, Option, Some, None, slice_set}
use mathlib.Core.Option.{some}
use lib.ListN.{get_elem?}
use Rattle.strip_steal.specs.declared.share.Share.{Share}
use Rattle.strip_steal.specs.Rule.{AreInOrder, full_weight, numbers_in, times}

-- entries were put
abbrev pub HasPut : Share → List (Option ℕ) → Share → Type 0
HasPut before entries after = after ≡ record before { put = before.put ++ entries }

-- entries were put behind those that were
abbrev pub with_entries : Share → List (Option ℕ) → Share
with_entries share entries = record share { put = share.put ++ entries }

-- an entry was taken: a number, or an end of the queue
abbrev pub with_taken : Share → Option ℕ → Share
with_taken share (Some number) = record share { taken = share.taken ++ number ∷ [] }
with_taken share None = record share { ended = true }

-- behind an end of a queue there is no number
abbrev pub IsClosed : List (Option ℕ) → Type 0
IsClosed put = (gone items : List (Option ℕ)) → gone ++ None ∷ items ≡ put → numbers_in items ≡ []

-- a take of an entry: no number was taken more often than it was put, and by a pass that took in no other one they
-- were taken in the order of putting
pub record HasTaken (before : Share) (entry : Option ℕ) (after : Share) : Type 0 where
  pub only : after ≡ with_taken before entry
  pub few : (number : ℕ) → times number after.taken ≤ times number (numbers_in before.put)
  pub order : before.has_joined ≡ false → AreInOrder after.taken (numbers_in before.put)

abbrev pub HasTakenOne : Share → List (Option ℕ) → Share → Type 0
HasTakenOne before [] after = ⊥
HasTakenOne before (entry ∷ []) after = HasTaken before entry after
HasTakenOne before (entry ∷ other ∷ entries) after = ⊥

-- what was taken with a pass: no number more often than it was put; and where the pass has all the weight and an
-- end was taken, each number as often as it was put
pub record AreCounted (share : Share) : Type 0 where
  pub few : (number : ℕ) → times number share.taken ≤ times number (numbers_in share.put)
  pub each : share.weight ≡ full_weight → share.ended ≡ true → (number : ℕ)
      → times number share.taken ≡ times number (numbers_in share.put)

-- a split: the pass loses a weight of 1, which the new one has, with which nothing was taken
abbrev pub lightened : Share → Share
lightened share = record share { weight = share.weight - 1 }

abbrev pub split_off : Share → Share
split_off share = record share { weight = 1; taken = []; ended = false; has_joined = false }

-- a join: what was taken with either; and nothing, which the other is left with
abbrev pub joined : Share → Share → Share
joined share other = record share {
  weight = share.weight + other.weight;
  taken = share.taken ++ other.taken;
  ended = share.ended || other.ended;
  has_joined = true;
}

abbrev pub spent_share : Share
spent_share = record { weight = 0; put = []; taken = []; ended = false; has_joined = false }

-- a taker was given this number by a share, no end of whose queue it had taken; or an end
abbrev pub WasGiven : Share → Option ℕ → Type 0
WasGiven share None = ⊤
WasGiven share (Some number) = (share.ended ≡ false) × HasTaken share (Some number) (with_taken share (Some number))

-- a taker asked the queue at this place: shares before and after
pub record IsAsked (before : List Share) (from : ℕ) (answer : Option ℕ) (after : List Share) : Type 0 where
  pub share : Share
  pub here : get_elem? before from ≡ some share
  pub only : after ≡ slice_set before from (with_taken share answer)
  pub given : WasGiven share answer

-- the shares of a pool took in those of a taker, from this place on: shares before, those taken in, and shares after
pub record AreJoined (before others : List Share) (place : ℕ) (after : List Share) : Type 0 where
  pub long : length after ≡ length before
  pub early : (i : ℕ) (share : Share) → get_elem? before i ≡ some share → i < place → get_elem? after i ≡ some share
  pub late : (i : ℕ) (share other : Share) → get_elem? before i ≡ some share → get_elem? others i ≡ some other
      → place ≤ i
      → (get_elem? after i ≡ some (joined share other)) × AreCounted (joined share other)
