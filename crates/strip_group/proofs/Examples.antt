-- Worked rows: all three actors work in scene 0, and each in one of the scenes 1 to 3 alone, a day each and a unit for a day of waiting.
use Rattle.std.proofs.Common.{◌≡◌, [], ◌∷◌, refl}
use Rattle.strip_mask.specs.Set.{has, meet, members, minus, numbers_below, size, union, with, without}
use Rattle.strip_group.specs.Group.{GroupData, group_extra, leaving_pay}

abbrev film : GroupData
film = record { casts = 7 ∷ 1 ∷ 2 ∷ 4 ∷ []; days = 1 ∷ 1 ∷ 1 ∷ 1 ∷ []; holds = 1 ∷ 1 ∷ 1 ∷ [] }

-- when scene 0 was shot, one of the three waits no day, one a day and one two
three : group_extra film 14 7 ≡ 3
unfolding has meet members minus numbers_below size union with without
three = refl

-- of two, the one who leaves last waits a day
two : group_extra film 14 3 ≡ 1
unfolding has meet members minus numbers_below size union with without
two = refl

-- an order of leaving
in_order : leaving_pay film 14 0 (2 ∷ 0 ∷ 1 ∷ []) ≡ 3
unfolding has meet members minus numbers_below size union with without
in_order = refl
