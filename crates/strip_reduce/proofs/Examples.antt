-- Worked rows of the definitions, by computation.
use Rattle.std.proofs.Common.{◌≡◌, ℕ, [], ◌∷◌, List, refl}
use Rattle.strip_mask.specs.Set.{has, closed_up, union, meet, minus, full, with, numbers_below}
use Rattle.strip_mask.specs.Sums.{sum_below}
use Rattle.strip_model.specs.Film.{FilmData}
use Rattle.strip_reduce.specs.Reduction.{reduced}

-- scenes of one day each whose actors get as much for waiting as for work
abbrev days_of_one : List ℕ → List ℕ → List ℕ → FilmData
days_of_one casts days rates = record { casts = casts; days = days; rates = rates; holds = rates; pairs = [] }

-- the first and the third scene are joined, and then the second actor has one scene
nested : reduced (days_of_one (3 ∷ 1 ∷ 3 ∷ []) (1 ∷ 1 ∷ 1 ∷ []) (5 ∷ 7 ∷ []))
    ≡ record { film = record { casts = 0 ∷ []; days = 3 ∷ []; rates = []; holds = []; pairs = [] }; members = (0 ∷ 2 ∷ 1 ∷ []) ∷ []; apart = 29 }
unfolding has closed_up union meet minus full with numbers_below sum_below
nested = refl

-- the last scene has the cast of the first
fourth : reduced (days_of_one (3 ∷ 6 ∷ 5 ∷ 3 ∷ []) (1 ∷ 1 ∷ 1 ∷ 1 ∷ []) (1 ∷ 2 ∷ 3 ∷ []))
    ≡ record { film = days_of_one (3 ∷ 6 ∷ 5 ∷ []) (2 ∷ 1 ∷ 1 ∷ []) (1 ∷ 2 ∷ 3 ∷ []); members = (0 ∷ 3 ∷ []) ∷ (1 ∷ []) ∷ (2 ∷ []) ∷ []; apart = 0 }
unfolding has closed_up union meet minus full with numbers_below sum_below
fourth = refl

-- the second actor works in the first scene alone, and without him it has the cast of the second
made_equal : reduced (days_of_one (3 ∷ 1 ∷ 4 ∷ 5 ∷ []) (1 ∷ 2 ∷ 3 ∷ 4 ∷ []) (1 ∷ 5 ∷ 2 ∷ []))
    ≡ record { film = days_of_one (1 ∷ 2 ∷ 3 ∷ []) (3 ∷ 3 ∷ 4 ∷ []) (1 ∷ 2 ∷ []); members = (0 ∷ 1 ∷ []) ∷ (2 ∷ []) ∷ (3 ∷ []) ∷ []; apart = 5 }
unfolding has closed_up union meet minus full with numbers_below sum_below
made_equal = refl

-- the first actor waits for nothing, so all his six days are set apart
waits_for_nothing : reduced (record { casts = 7 ∷ 5 ∷ 3 ∷ []; days = 1 ∷ 2 ∷ 3 ∷ []; rates = 4 ∷ 1 ∷ 2 ∷ []; holds = 0 ∷ 1 ∷ 2 ∷ []; pairs = [] })
    ≡ record { film = days_of_one (3 ∷ 2 ∷ 1 ∷ []) (1 ∷ 2 ∷ 3 ∷ []) (1 ∷ 2 ∷ []); members = (0 ∷ []) ∷ (1 ∷ []) ∷ (2 ∷ []) ∷ []; apart = 24 }
unfolding has closed_up union meet minus full with numbers_below sum_below
waits_for_nothing = refl

-- the first scene has the cast of the second, but stands in a pair
abbrev paired : FilmData
paired = record { casts = 3 ∷ 3 ∷ 1 ∷ []; days = 1 ∷ 1 ∷ 1 ∷ []; rates = 1 ∷ 2 ∷ []; holds = 1 ∷ 2 ∷ []; pairs = record { first = 0; then = 2 } ∷ [] }

stays_apart : reduced paired ≡ record { film = paired; members = (0 ∷ []) ∷ (1 ∷ []) ∷ (2 ∷ []) ∷ []; apart = 0 }
unfolding has closed_up union meet minus full with numbers_below sum_below
stays_apart = refl

-- the first two scenes are joined, so the pair's numbers are one lower
lower_pair : reduced (record { casts = 3 ∷ 3 ∷ 1 ∷ 2 ∷ []; days = 1 ∷ 1 ∷ 1 ∷ 1 ∷ []; rates = 1 ∷ 2 ∷ []; holds = 1 ∷ 2 ∷ []; pairs = record { first = 3; then = 2 } ∷ [] })
    ≡ record {
      film = record { casts = 3 ∷ 1 ∷ 2 ∷ []; days = 2 ∷ 1 ∷ 1 ∷ []; rates = 1 ∷ 2 ∷ []; holds = 1 ∷ 2 ∷ []; pairs = record { first = 2; then = 1 } ∷ [] };
      members = (0 ∷ 1 ∷ []) ∷ (2 ∷ []) ∷ (3 ∷ []) ∷ [];
      apart = 0;
    }
unfolding has closed_up union meet minus full with numbers_below sum_below
lower_pair = refl

-- the first two actors work in the same scenes, and wait at different rates
works_alike : reduced (record { casts = 3 ∷ 4 ∷ 7 ∷ []; days = 1 ∷ 1 ∷ 1 ∷ []; rates = 1 ∷ 2 ∷ 3 ∷ []; holds = 4 ∷ 5 ∷ 6 ∷ []; pairs = [] })
    ≡ record {
      film = record { casts = 1 ∷ 2 ∷ 3 ∷ []; days = 1 ∷ 1 ∷ 1 ∷ []; rates = 3 ∷ 3 ∷ []; holds = 9 ∷ 6 ∷ []; pairs = [] };
      members = (0 ∷ []) ∷ (1 ∷ []) ∷ (2 ∷ []) ∷ [];
      apart = 0;
    }
unfolding has closed_up union meet minus full with numbers_below sum_below
works_alike = refl
