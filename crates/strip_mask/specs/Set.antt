-- Finite sets of numbers below 64, as masks below 2^64: bit i stands for number i.
use Rattle.std.specs.Prelude.{◌≡◌, ℕ, zero, suc, ◌+◌, ◌/◌, ◌^◌, ◌<◌, nat_lt, if◌then◌else◌, Bool, true, ◌==◌, List, [], ◌∷◌, ◌++◌, length, filter, sum_by, slice_index, slice_get, Option, bit_and, bit_or, bit_xor}
use Rattle.std.specs.Int.{bit_at}

-- a mask of 64 bits
abbrev pub IsSet : ℕ → Type 0
IsSet set = set < 2 ^ 64

-- whether the set has the number
unfoldable pub has : ℕ → ℕ → Bool
has set i = bit_at set i == 1

-- the numbers of either set
unfoldable pub union : ℕ → ℕ → ℕ
union a b = bit_or a b

-- the numbers of both sets
unfoldable pub meet : ℕ → ℕ → ℕ
meet a b = bit_and a b

-- the numbers that the first set has and the second has not
unfoldable pub minus : ℕ → ℕ → ℕ
minus a b = bit_xor a (bit_and a b)

-- the set with this number in it
unfoldable pub with : ℕ → ℕ → ℕ
with set i = union set (2 ^ i)

-- the set without this number
unfoldable pub without : ℕ → ℕ → ℕ
without set i = minus set (2 ^ i)

-- 0, 1, .. up to n - 1
unfoldable pub numbers_below : ℕ → List ℕ
numbers_below zero = []
numbers_below (suc n) = numbers_below n ++ n ∷ []

-- the numbers of the set, rising
unfoldable pub members : ℕ → List ℕ
members set = filter (has set) (numbers_below 64)

-- how many numbers the set has
unfoldable pub size : ℕ → ℕ
size set = length (members set)

-- the least of them; none where there is none
unfoldable pub first : ℕ → Option ℕ
first set = slice_get (members set) 0

-- the sum of the values at the numbers of the set
unfoldable pub sum_over : List ℕ → ℕ → ℕ
sum_over values set = sum_by (slice_index values) (members set)

-- all numbers below n
unfoldable pub full : ℕ → ℕ
full zero = 0
full (suc n) = with (full n) n

-- the set without this number, and the greater ones each one lower
unfoldable pub closed_up : ℕ → ℕ → ℕ
closed_up set i = union (meet set (full i)) (minus (set / 2) (full i))

-- the number that comes to this place when number i is taken out
abbrev pub behind_gap : ℕ → ℕ → ℕ
behind_gap i place = if nat_lt place i then place else place + 1

-- a set of numbers below n
abbrev pub LiesBelow : ℕ → ℕ → Type 0
LiesBelow n set = (i : ℕ) → has set i ≡ true → i < n
