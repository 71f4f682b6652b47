-- Worked rows: 3 works in scene 0, 1 and 2 in scene 1, which takes two days, 0, 1 and 2 in scene 2, and 2 and 3 in scene 3. For a
-- day of waiting 0 and 3 get 3, and 1 and 2 get 1. The group is 0 and 3.
use Rattle.std.proofs.Common.{◌≡◌, false, [], ◌∷◌, refl}
use Rattle.strip_mask.specs.Set.{has, meet, members, minus, numbers_below, size, sum_over, union, with, without}
use Rattle.strip_group.specs.Group.{GroupData, group_extra}
use Rattle.strip_arrivals.specs.Arrivals.{arrivals_value, at_first, is_allowed, leaves, price}
use Rattle.strip_arrivals.specs.Along.{waiting}

abbrev film : GroupData
film = record { casts = 8 ∷ 6 ∷ 7 ∷ 12 ∷ []; days = 1 ∷ 2 ∷ 1 ∷ 1 ∷ []; holds = 3 ∷ 1 ∷ 1 ∷ 3 ∷ [] }

-- 3 waits on the day of scene 2, since else 0 would wait on those of scenes 0 and 3
alone : arrivals_value film 15 9 0 ≡ 3
unfolding has meet members minus numbers_below size sum_over union with without
alone = refl

extra : group_extra film 15 9 ≡ 3
unfolding has meet members minus numbers_below size union with without
extra = refl

-- with 1 alone or 2 alone to come
with_first : arrivals_value film 15 9 2 ≡ 5
unfolding has meet members minus numbers_below size sum_over union with without
with_first = refl

with_second : arrivals_value film 15 9 4 ≡ 4
unfolding has meet members minus numbers_below size sum_over union with without
with_second = refl

-- with both, and along a list where they are paid as much
with_both : arrivals_value film 15 9 6 ≡ 6
unfolding has meet members minus numbers_below size sum_over union with without
with_both = refl

along : waiting film 9 6 (0 ∷ 3 ∷ 2 ∷ 1 ∷ []) ≡ 6
unfolding has meet members minus numbers_below size sum_over union with without
along = refl

-- where 0 has left and 2 and then 1 have come, scene 0 costs 2: both had come, or else 0, who works with 1, had to wait for it
both_had_come : price film 15 9 (record { left = 1; coming = 0; here = 2 ∷ 1 ∷ []; gone = 0 }) 0 ≡ 2
unfolding has meet members minus numbers_below size sum_over union with without
both_had_come = refl

-- before 2 has come, 3 can't leave, since they both work in scene 3
not_yet : is_allowed film 15 (at_first 4) (leaves 3) ≡ false
unfolding has meet members minus numbers_below size union with without
not_yet = refl
