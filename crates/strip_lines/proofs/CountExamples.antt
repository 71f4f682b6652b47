-- Worked rows of the definitions, by computation.
use Rattle.std.proofs.Common.{◌≡◌, [], ◌∷◌, refl}
use Rattle.strip_mask.specs.Set.{has, union, meet, minus, with, without, members, numbers_below, sum_over, full}
use Rattle.strip_model.specs.declared.kind.Kind.TheVariants.{Plain, Pairs}
use Rattle.strip_model.specs.Film.{FilmData}
use Rattle.strip_lines.specs.Lines.{rules_of}
use Rattle.strip_lines.specs.Paths.{candidate_count, path_count, leaving_count}

counts : path_count 0 ∷ path_count 1 ∷ path_count 2 ∷ path_count 3 ∷ path_count 4 ∷ path_count 5 ∷ path_count 6 ∷ path_count 7 ∷ path_count 8 ∷ []
    ≡ 0 ∷ 1 ∷ 3 ∷ 10 ∷ 41 ∷ 206 ∷ 1237 ∷ 8660 ∷ 69281 ∷ []
counts = refl

-- three scenes of two actors each, one day each; its first order costs 13
abbrev triangle : FilmData
triangle = record { casts = 3 ∷ 6 ∷ 5 ∷ []; days = 1 ∷ 1 ∷ 1 ∷ []; rates = 1 ∷ 2 ∷ 3 ∷ []; holds = 1 ∷ 2 ∷ 3 ∷ []; pairs = [] }

few_plain : candidate_count (rules_of Plain triangle) 13 ≡ 4
unfolding has union meet minus with without full members numbers_below sum_over
few_plain = refl

few_pairs : candidate_count (rules_of Pairs triangle) 13 ≡ 1
unfolding has union meet minus with without full members numbers_below sum_over
few_pairs = refl

ways_plain : leaving_count (rules_of Plain triangle) 13 7 ∷ leaving_count (rules_of Plain triangle) 13 6 ∷ leaving_count (rules_of Plain triangle) 13 5 ∷ leaving_count (rules_of Plain triangle) 13 3 ∷ leaving_count (rules_of Plain triangle) 13 4 ∷ [] ≡ 1 ∷ 1 ∷ 1 ∷ 1 ∷ 0 ∷ []
unfolding has union meet minus with without full members numbers_below sum_over
ways_plain = refl

-- the same with the last scene before the second
abbrev paired : FilmData
paired = record { casts = 3 ∷ 6 ∷ 5 ∷ []; days = 1 ∷ 1 ∷ 1 ∷ []; rates = 1 ∷ 2 ∷ 3 ∷ []; holds = 1 ∷ 2 ∷ 3 ∷ []; pairs = record { first = 2; then = 1 } ∷ [] }

few_paired : candidate_count (rules_of Plain paired) 13 ≡ 3
unfolding has union meet minus with without full members numbers_below sum_over
few_paired = refl
