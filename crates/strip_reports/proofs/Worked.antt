-- The tables of a film of three scenes, by computation.
use Rattle.std.proofs.Common.{◌≡◌, true, false, List, [], ◌∷◌, ℕ, codes, refl}
use Rattle.strip_mask.specs.Set.{has}
use Rattle.strip_mask.specs.Sums.{sum_below}
use Rattle.strip_model.specs.declared.pair.Pair.{Pair}
use Rattle.strip_model.specs.Data.{ActorData, InstanceData, SceneData}
use Rattle.strip_reports.specs.Html.{Word, Name, Upright, Number, Works, Held, Empty}
use Rattle.strip_reports.specs.Board.{breaks, columns, order_cells, order_heads, order_total, table_starts}

abbrev scene : List ℕ → ℕ → SceneData
scene name cast = record { name = name; days = 1; cast = cast }

abbrev actor : List ℕ → ℕ → ℕ → ActorData
actor name rate hold = record { name = name; rate = rate; hold = hold }

abbrev first_before_last : Pair
first_before_last = record { first = 0; then = 2 }

abbrev second_before_last : Pair
second_before_last = record { first = 1; then = 2 }

-- three scenes of two actors each, one day each; the last one comes behind the others
abbrev triangle : InstanceData
triangle = record {
  scenes = scene (codes "s1") 3 ∷ scene (codes "s2") 6 ∷ scene (codes "s3") 5 ∷ [];
  actors = actor (codes "a") 1 5 ∷ actor (codes "b") 2 1 ∷ actor (codes "c") 3 4 ∷ [];
  pairs = first_before_last ∷ second_before_last ∷ [];
}

abbrev numbered : List ℕ
numbered = 0 ∷ 1 ∷ 2 ∷ []

abbrev last_first : List ℕ
last_first = 2 ∷ 0 ∷ 1 ∷ []

heads : order_heads triangle 0
    ≡ Word (codes "No.") ∷ Word (codes "Scene") ∷ Word (codes "Days") ∷ Word (codes "First") ∷ Word (codes "Last")
    ∷ Upright (codes "a") ∷ Upright (codes "b") ∷ Upright (codes "c")
    ∷ Word (codes "Working") ∷ Word (codes "Held") ∷ Word (codes "Pay") ∷ []
heads = refl

-- ---- scene by scene; a is held in s2

numbered_first : order_cells triangle numbered 0 0
    ≡ Number 1 ∷ Name (codes "s1") ∷ Number 1 ∷ Number 1 ∷ Number 1 ∷ Works ∷ Works ∷ Empty ∷ Number 2 ∷ Number 0 ∷ Number 3 ∷ []
unfolding has sum_below
numbered_first = refl

numbered_second : order_cells triangle numbered 0 1
    ≡ Number 2 ∷ Name (codes "s2") ∷ Number 1 ∷ Number 2 ∷ Number 2 ∷ Held ∷ Works ∷ Works ∷ Number 2 ∷ Number 1 ∷ Number 10 ∷ []
unfolding has sum_below
numbered_second = refl

numbered_third : order_cells triangle numbered 0 2
    ≡ Number 3 ∷ Name (codes "s3") ∷ Number 1 ∷ Number 3 ∷ Number 3 ∷ Works ∷ Empty ∷ Works ∷ Number 2 ∷ Number 0 ∷ Number 4 ∷ []
unfolding has sum_below
numbered_third = refl

numbered_total : order_total triangle numbered 0
    ≡ Empty ∷ Word (codes "Total") ∷ Number 3 ∷ Empty ∷ Empty ∷ Empty ∷ Empty ∷ Empty ∷ Empty ∷ Empty ∷ Number 17 ∷ []
unfolding has sum_below
numbered_total = refl

numbered_keeps_first : breaks numbered first_before_last ≡ false
numbered_keeps_first = refl

numbered_keeps_second : breaks numbered second_before_last ≡ false
numbered_keeps_second = refl

-- ---- the last scene first; c is held in s1

last_first_first : order_cells triangle last_first 0 0
    ≡ Number 1 ∷ Name (codes "s3") ∷ Number 1 ∷ Number 1 ∷ Number 1 ∷ Works ∷ Empty ∷ Works ∷ Number 2 ∷ Number 0 ∷ Number 4 ∷ []
unfolding has sum_below
last_first_first = refl

last_first_second : order_cells triangle last_first 0 1
    ≡ Number 2 ∷ Name (codes "s1") ∷ Number 1 ∷ Number 2 ∷ Number 2 ∷ Works ∷ Works ∷ Held ∷ Number 2 ∷ Number 1 ∷ Number 7 ∷ []
unfolding has sum_below
last_first_second = refl

last_first_third : order_cells triangle last_first 0 2
    ≡ Number 3 ∷ Name (codes "s2") ∷ Number 1 ∷ Number 3 ∷ Number 3 ∷ Empty ∷ Works ∷ Works ∷ Number 2 ∷ Number 0 ∷ Number 5 ∷ []
unfolding has sum_below
last_first_third = refl

last_first_total : order_total triangle last_first 0
    ≡ Empty ∷ Word (codes "Total") ∷ Number 3 ∷ Empty ∷ Empty ∷ Empty ∷ Empty ∷ Empty ∷ Empty ∷ Empty ∷ Number 16 ∷ []
unfolding has sum_below
last_first_total = refl

last_first_breaks_first : breaks last_first first_before_last ≡ true
last_first_breaks_first = refl

last_first_breaks_second : breaks last_first second_before_last ≡ true
last_first_breaks_second = refl

-- ---- tables of 24 actors

no_actor : table_starts 0 ≡ 0 ∷ []
no_actor = refl

one_table : table_starts 24 ≡ 0 ∷ []
one_table = refl

two_tables : table_starts 25 ≡ 0 ∷ 24 ∷ []
two_tables = refl

three_tables : table_starts 64 ≡ 0 ∷ 24 ∷ 48 ∷ []
three_tables = refl

last_of_25 : columns 25 24 ≡ 24 ∷ []
last_of_25 = refl
