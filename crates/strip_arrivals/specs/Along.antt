-- What a group and its newcomers are paid for waiting along a list of scenes.
use Rattle.std.specs.Prelude.{◌≡◌, ℕ, ◌+◌, ◌*◌, true, List, [], ◌∷◌, slice_index}
use Rattle.strip_mask.specs.Set.{has, meet, minus, sum_over, union, without}
use Rattle.strip_group.specs.Group.{GroupData}
use Rattle.strip_arrivals.specs.Arrivals.{cast_of}

-- the list has each scene of the set once, and no other
abbrev pub HasEach : ℕ → List ℕ → Type 0
HasEach set [] = set ≡ 0
HasEach set (scene ∷ later) = (has set scene ≡ true) × HasEach (without set scene) later

-- who waits on the days of a scene, where some have worked already and these scenes are still to come: who doesn't
-- work in it and has a scene to come, of the group, and of those newcomers who have come
abbrev pub waiting_at : GroupData → ℕ → ℕ → ℕ → ℕ → List ℕ → ℕ
waiting_at film group newcomers came scene later =
    minus (meet (union group (meet newcomers came)) (cast_of film later)) (slice_index film.casts scene)

-- the days of each scene at the hold rates of those who wait
abbrev pub waiting_from : GroupData → ℕ → ℕ → ℕ → List ℕ → ℕ
waiting_from film group newcomers came [] = 0
waiting_from film group newcomers came (scene ∷ later) =
    slice_index film.days scene * sum_over film.holds (waiting_at film group newcomers came scene later)
    + waiting_from film group newcomers (union came (slice_index film.casts scene)) later

-- from the first scene on
abbrev pub waiting : GroupData → ℕ → ℕ → List ℕ → ℕ
waiting film group newcomers scenes = waiting_from film group newcomers 0 scenes
