-- What a group of actors, all of whom are on location, is paid for waiting at least.
use Rattle.std.specs.Prelude.{◌≡◌, ℕ, zero, suc, ◌+◌, ◌*◌, ◌≤◌, ◌==◌, Bool, true, not, ◌&&◌, List, [], ◌∷◌, All, filter, count_by, sum_by, slice_index}
use Rattle.strip_mask.specs.Set.{has, with, without, meet, members, size}
use Rattle.strip_mask.specs.Least.{least_over}

-- what a group's waiting goes by: who works in each scene, its days, and what each actor gets for a day of waiting
pub record GroupData : Type 0 where
  pub casts : List ℕ
  pub days : List ℕ
  pub holds : List ℕ

-- the scene has someone of the group, and the actor doesn't work in it
abbrev pub is_waited : GroupData → ℕ → ℕ → ℕ → Bool
is_waited film group actor scene =
    not (meet (slice_index film.casts scene) group == 0) && not (has (slice_index film.casts scene) actor)

-- the days of the scenes of the set that an actor waits through while the group leaves
abbrev pub waited_days : GroupData → ℕ → ℕ → ℕ → ℕ
waited_days film set group actor = sum_by (slice_index film.days) (filter (is_waited film group actor) (members set))

-- what the actors of a list are paid for waiting when they leave in its order, after those of `gone`: each waits on
-- the days of those who left before him
abbrev pub leaving_pay : GroupData → ℕ → ℕ → List ℕ → ℕ
leaving_pay film set gone [] = 0
leaving_pay film set gone (actor ∷ later) =
    slice_index film.holds actor * waited_days film set gone actor + leaving_pay film set (with gone actor) later

-- the list has each actor of the group once, and no other
pub record IsLeaving (group : ℕ) (order : List ℕ) : Type 0 where
  pub known : All (λ actor. has group actor ≡ true) order
  pub once : (actor : ℕ) → has group actor ≡ true → count_by (λ a. a == actor) order ≡ 1

-- the extra of a group: what it is paid in some order of leaving, and in none less
pub record IsExtra (film : GroupData) (set group extra : ℕ) : Type 0 where
  pub attained : (order : List ℕ) × IsLeaving group order × (leaving_pay film set 0 order ≡ extra)
  pub least : (order : List ℕ) → IsLeaving group order → extra ≤ leaving_pay film set 0 order

-- the extra, by who leaves last: the others of the group leave before him, in the order that is cheapest for them
abbrev pub extra_by_last : GroupData → ℕ → ℕ → ℕ → ℕ
extra_by_last film set zero group = 0
extra_by_last film set (suc n) group =
    least_over (λ last. extra_by_last film set n (without group last)
    + slice_index film.holds last * waited_days film set (without group last) last) (members group)

abbrev pub group_extra : GroupData → ℕ → ℕ → ℕ
group_extra film set group = extra_by_last film set (size group) group
