-- Worked rows of the definitions, by computation.
use Rattle.std.proofs.Common.{◌≡◌, ℕ, [], ◌∷◌, ◌++◌, List, refl, ap, inl, inr, arith}
use Rattle.strip_mask.specs.Set.{has}
use Rattle.strip_mask.specs.Sums.{sum_below}
use Rattle.strip_model.specs.declared.pair.Pair.{Pair}
use Rattle.strip_model.specs.Film.{FilmData}
use Rattle.strip_model.specs.Order.{StandsBefore}
use Rattle.strip_model.specs.Pairs.{HasCycle, IsChain, Leads, Precedes}
use Rattle.strip_model.specs.Pay.{span, pay_of}
use Rattle.strip_mask.proofs.Lists.{contains_cases, contains_none}

-- three scenes of two actors each, one day each, at these rates
abbrev triangle : List ℕ → List ℕ → FilmData
triangle rates holds = record { casts = 3 ∷ 6 ∷ 5 ∷ []; days = 1 ∷ 1 ∷ 1 ∷ []; rates = rates; holds = holds; pairs = [] }

rising : pay_of (triangle (1 ∷ 2 ∷ 3 ∷ []) (1 ∷ 2 ∷ 3 ∷ [])) (0 ∷ 1 ∷ 2 ∷ []) ≡ 13
unfolding has sum_below
rising = refl

last_two_turned : pay_of (triangle (1 ∷ 2 ∷ 3 ∷ []) (1 ∷ 2 ∷ 3 ∷ [])) (0 ∷ 2 ∷ 1 ∷ []) ≡ 14
unfolding has sum_below
last_two_turned = refl

-- the second actor waits for a day at his hold rate of 1
held_for_less : pay_of (triangle (1 ∷ 2 ∷ 3 ∷ []) (5 ∷ 1 ∷ 4 ∷ [])) (0 ∷ 2 ∷ 1 ∷ []) ≡ 13
unfolding has sum_below
held_for_less = refl

-- only days of waiting are paid
waiting_alone : pay_of (triangle (0 ∷ 0 ∷ 0 ∷ []) (1 ∷ 1 ∷ 1 ∷ [])) (0 ∷ 1 ∷ 2 ∷ []) ≡ 1
unfolding has sum_below
waiting_alone = refl

-- one actor in each of two scenes, and both in the third
abbrev shared : FilmData
shared = record { casts = 1 ∷ 2 ∷ 3 ∷ []; days = 1 ∷ 1 ∷ 1 ∷ []; rates = 10 ∷ 20 ∷ []; holds = 10 ∷ 20 ∷ []; pairs = [] }

shared_between : pay_of shared (0 ∷ 2 ∷ 1 ∷ []) ≡ 60
unfolding has sum_below
shared_between = refl

shared_last : pay_of shared (0 ∷ 1 ∷ 2 ∷ []) ≡ 70
unfolding has sum_below
shared_last = refl

span_of_first : span shared (0 ∷ 1 ∷ 2 ∷ []) 0 ≡ 0 ∷ 1 ∷ 2 ∷ []
unfolding has
span_of_first = refl

span_of_second : span shared (0 ∷ 1 ∷ 2 ∷ []) 1 ≡ 1 ∷ 2 ∷ []
unfolding has
span_of_second = refl

-- pairs that lead round come back
abbrev ring : List Pair
ring = record { first = 0; then = 1 } ∷ record { first = 1; then = 2 } ∷ record { first = 2; then = 0 } ∷ []

ring_returns : HasCycle ring
ring_returns = record { scene = 0; between = 1 ∷ 2 ∷ []; returns = ((0, omega arith, refl), ((1, omega arith, refl), ((2, omega arith, refl), tt))) }

-- two of them lead on by the scene between
ring_leads : Leads ring 0 2
ring_leads = (1 ∷ [], ((0, omega arith, refl), ((1, omega arith, refl), tt)))

-- and one alone doesn't lead back
abbrev single : List Pair
single = record { first = 0; then = 1 } ∷ []

one_way : Leads single 1 0 → ⊥
one_way leads = by leads.0 leads.1
  where
    begins_at_0 : (next : ℕ) → Precedes single 1 next → ⊥
    begins_at_0 next there = elim (contains_cases (record { first = 0; then = 1 }) [] (record { first = 1; then = next }) there) [
      | inl same ↦ absurd (let begins : 0 ≡ 1 = ap (λ (pair : Pair). pair.first) same in omega (arith, begins))
      | inr none ↦ contains_none (record { first = 1; then = next }) none
    ]

    by : (between : List ℕ) → IsChain single (1 ∷ between ++ 0 ∷ []) → ⊥
    by [] chain = begins_at_0 0 chain.0
    by (next ∷ rest) chain = begins_at_0 next chain.0

stands : StandsBefore 2 1 (0 ∷ 2 ∷ 1 ∷ [])
stands = inr (inl (refl, (0, omega arith, refl)))
