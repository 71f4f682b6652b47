-- Laws of sets, as `sets_are_by_members` states them.
use Rattle.std.specs.Prelude.{◌≡◌, ◌≢◌, ◌↔◌, ℕ, ◌+◌, ◌<◌, ◌≤◌, true, false, not, ◌&&◌, ◌||◌, eqb, List, slice_index, Contains, Some, None}
use Rattle.std.specs.List.Sorted.{IsStrictlyIncreasing}
use Rattle.strip_mask.specs.Set.{IsSet, behind_gap, closed_up, has, with, without, union, meet, minus, members, size, first, sum_over}

-- two sets with the same members are one
abbrev pub SameMembersSameSet : Type 0
SameMembersSameSet = (a b : ℕ) → IsSet a → IsSet b → ((i : ℕ) → i < 64 → has a i ≡ has b i) → a ≡ b

-- the members of the sets that are made from others
abbrev pub MadeByMembers : Type 0
MadeByMembers = (a b i j : ℕ) → (has (union a b) j ≡ (has a j || has b j)) × (has (meet a b) j ≡ (has a j && has b j)) × (has (minus a b) j ≡ (has a j && not (has b j))) × (has (with a i) j ≡ (eqb i j || has a j)) × (has (without a i) j ≡ (not (eqb i j) && has a j))

-- a set closed up at a number has at each place whether the set had the number that comes to it, and is a mask as
-- the set was
abbrev pub ClosesTheGap : Type 0
ClosesTheGap = (a i : ℕ) → ((j : ℕ) → has (closed_up a i) j ≡ has a (behind_gap i j)) × (IsSet a → i < 64
    → IsSet (closed_up a i))

-- a set without one of its members is smaller by one
abbrev pub OneFewer : Type 0
OneFewer = (a i : ℕ) → IsSet a → has a i ≡ true → size (without a i) + 1 ≡ size a

-- a number more adds its value to the sum
abbrev pub AddsItsValue : Type 0
AddsItsValue = (v : List ℕ) (a i : ℕ) → i < 64 → has a i ≡ false
    → sum_over v (with a i) ≡ sum_over v a + slice_index v i

-- the sums over two sets without a common member add up
abbrev pub SumsAddUp : Type 0
SumsAddUp = (v : List ℕ) (a b : ℕ) → ((i : ℕ) → has a i ≡ true → has b i ≡ false)
    → sum_over v (union a b) ≡ sum_over v a + sum_over v b

-- the sum over a part of a set is at most the sum over the set
abbrev pub NoMoreThanTheWhole : Type 0
NoMoreThanTheWhole = (v : List ℕ) (a b : ℕ) → ((i : ℕ) → has a i ≡ true → has b i ≡ true) → sum_over v a ≤ sum_over v b

-- the empty set has no member and no first, and its size and sums are 0
abbrev pub EmptyHasNone : Type 0
EmptyHasNone = ((i : ℕ) → has 0 i ≡ false) × (first 0 ≡ None) × (size 0 ≡ 0) × ((v : List ℕ) → sum_over v 0 ≡ 0)

-- the members of a set are below 64
abbrev pub MembersBelow64 : Type 0
MembersBelow64 = (a i : ℕ) → IsSet a → has a i ≡ true → i < 64

-- a set that isn't empty has a least member, which is its first
abbrev pub HasLeastMember : Type 0
HasLeastMember = (a : ℕ) → IsSet a → a ≢ 0 → (i : ℕ) × (first a ≡ Some i) × (has a i ≡ true) × ((j : ℕ)
    → has a j ≡ true → i ≤ j)

-- the members are the numbers that the set has, each once and rising
abbrev pub MembersRise : Type 0
MembersRise = (a : ℕ) → IsSet a → IsStrictlyIncreasing (members a) × ((i : ℕ) → Contains (members a) i
    ↔ (has a i ≡ true))
