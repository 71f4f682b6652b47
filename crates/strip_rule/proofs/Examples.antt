-- Worked rows of the definitions, by computation.
use Rattle.std.proofs.Common.{◌≡◌, true, false, [], ◌∷◌, refl}
use Rattle.strip_mask.specs.Set.{has, union, meet, minus, with, members, numbers_below, full}
use Rattle.strip_model.specs.Film.{FilmData}
use Rattle.strip_rule.specs.Rule.{fits_before, rules_out, open_firsts}

-- both work in the first scene, and one alone in each other scene
abbrev costly : FilmData
costly = record { casts = 3 ∷ 1 ∷ 2 ∷ []; days = 1 ∷ 1 ∷ 1 ∷ []; rates = 1 ∷ 10 ∷ []; holds = 1 ∷ 10 ∷ []; pairs = [] }

cheap_actor_keeps_the_costly : rules_out costly 6 1 2 ≡ false
unfolding has union meet minus with full members numbers_below
cheap_actor_keeps_the_costly = refl

costly_actor_keeps_the_cheap : rules_out costly 6 2 1 ≡ false
unfolding has union meet minus with full members numbers_below
costly_actor_keeps_the_cheap = refl

open_of_costly : open_firsts costly 6 ≡ 6
unfolding has union meet minus with full members numbers_below
open_of_costly = refl

-- one alone in each of two scenes, and both in the last
abbrev joined : FilmData
joined = record { casts = 1 ∷ 2 ∷ 3 ∷ []; days = 1 ∷ 1 ∷ 1 ∷ []; rates = 10 ∷ 20 ∷ []; holds = 10 ∷ 20 ∷ []; pairs = [] }

open_of_joined : open_firsts joined 7 ≡ 3
unfolding has union meet minus with full members numbers_below
open_of_joined = refl

-- the first rules out the second, in which another works too
abbrev free : FilmData
free = record { casts = 1 ∷ 3 ∷ 4 ∷ []; days = 1 ∷ 1 ∷ 1 ∷ []; rates = 1 ∷ 1 ∷ 1 ∷ []; holds = 1 ∷ 1 ∷ 1 ∷ []; pairs = [] }

open_of_free : open_firsts free 7 ≡ 5
unfolding has union meet minus with full members numbers_below
open_of_free = refl

-- but not while the third has to come before it
abbrev paired : FilmData
paired = record { casts = 1 ∷ 3 ∷ 4 ∷ []; days = 1 ∷ 1 ∷ 1 ∷ []; rates = 1 ∷ 1 ∷ 1 ∷ []; holds = 1 ∷ 1 ∷ 1 ∷ []; pairs = record { first = 2; then = 0 } ∷ [] }

fits_but_waits : fits_before paired 7 0 1 ≡ true
unfolding has union meet minus with full members numbers_below
fits_but_waits = refl

rules_nothing_out : rules_out paired 7 0 1 ≡ false
unfolding has union meet minus with full members numbers_below
rules_nothing_out = refl

open_of_paired : open_firsts paired 7 ≡ 6
unfolding has union meet minus with full members numbers_below
open_of_paired = refl

-- of equal casts the lesser scene rules out the greater
abbrev equal : FilmData
equal = record { casts = 1 ∷ 1 ∷ []; days = 1 ∷ 2 ∷ []; rates = 1 ∷ []; holds = 1 ∷ []; pairs = [] }

lesser_rules : rules_out equal 3 0 1 ≡ true
unfolding has union meet minus with full members numbers_below
lesser_rules = refl

greater_yields : rules_out equal 3 1 0 ≡ false
unfolding has union meet minus with full members numbers_below
greater_yields = refl

open_of_equal : open_firsts equal 3 ≡ 1
unfolding has union meet minus with full members numbers_below
open_of_equal = refl
