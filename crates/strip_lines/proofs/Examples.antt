-- Worked rows of the definitions, by computation.
use Rattle.std.proofs.Common.{◌≡◌, [], ◌∷◌, refl}
use Rattle.strip_mask.specs.Set.{has, union, meet, minus, with, without, members, numbers_below, sum_over, full}
use Rattle.strip_model.specs.declared.kind.Kind.TheVariants.{Plain, Pairs}
use Rattle.strip_model.specs.Film.{FilmData}
use Rattle.strip_lines.specs.Lines.{known, ahead, rules_of}

-- three scenes of two actors each, one day each
abbrev triangle : FilmData
triangle = record { casts = 3 ∷ 6 ∷ 5 ∷ []; days = 1 ∷ 1 ∷ 1 ∷ []; rates = 1 ∷ 2 ∷ 3 ∷ []; holds = 1 ∷ 2 ∷ 3 ∷ []; pairs = [] }

-- the best first step of the whole costs 3, and what then remains at least 9, or 10 with the pairs of actors
look_ahead : ahead (rules_of Plain triangle) 7 ≡ 12
unfolding has union meet minus with without full members numbers_below sum_over
look_ahead = refl

look_ahead_by_pairs : ahead (rules_of Pairs triangle) 7 ≡ 13
unfolding has union meet minus with without full members numbers_below sum_over
look_ahead_by_pairs = refl

-- a line on what remains raises what is known of it
known_rest : known (rules_of Plain triangle) (record { set = 6; bound = 10 } ∷ record { set = 5; bound = 11 } ∷ []) 6 ≡ 10
unfolding has union meet minus with full members numbers_below sum_over
known_rest = refl
