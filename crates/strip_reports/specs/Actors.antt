-- The table of the actors: the days on which each works and is held, and what he gets for them.
use Rattle.std.specs.Prelude.{ℕ, ◌+◌, ◌-◌, ◌*◌, ◌==◌, List, [], ◌∷◌, ◌++◌, length, map, reverse, codes, slice_index, slice_index_or, if◌then◌else◌}
use Rattle.std.specs.List.{list_any, position_or_len, range_with_len}
use Rattle.strip_mask.specs.Set.{has}
use Rattle.strip_mask.specs.Sums.{sum_below}
use Rattle.strip_model.specs.Film.{FilmData}
use Rattle.strip_model.specs.Data.{InstanceData}
use Rattle.strip_model.specs.FilmOf.{film_of}
use Rattle.strip_reports.specs.Days.{crews_of, hold_days, work_days}
use Rattle.strip_reports.specs.declared.actors.Earned.{Earned}
use Rattle.strip_reports.specs.Html.{Word, Name, Number, Empty, Cells, table_text}

-- the first day on which the actor works, counted from 1, and the last one; 0 if he works on none
abbrev pub first_day : List ℕ → ℕ → ℕ
first_day crews actor =
    if list_any (λ crew. has crew actor) crews then position_or_len (λ crew. has crew actor) crews + 1 else 0

abbrev pub last_day : List ℕ → ℕ → ℕ
last_day crews actor = length crews - position_or_len (λ crew. has crew actor) (reverse crews)

-- what an actor's days come to: those on which he works at his rate, and those on which he is held at his hold rate
abbrev pub earned_by : FilmData → List ℕ → ℕ → Earned
earned_by film crews actor = record {
  worked = work_days crews actor;
  work_pay = slice_index film.rates actor * work_days crews actor;
  held = hold_days crews actor;
  hold_pay = slice_index film.holds actor * hold_days crews actor;
}

-- what the days of all actors come to
abbrev pub earned_by_all : FilmData → List ℕ → Earned
earned_by_all film crews =
    let all = length film.rates in
    record {
      worked = sum_below all (λ actor. (earned_by film crews actor).worked);
      work_pay = sum_below all (λ actor. (earned_by film crews actor).work_pay);
      held = sum_below all (λ actor. (earned_by film crews actor).held);
      hold_pay = sum_below all (λ actor. (earned_by film crews actor).hold_pay);
    }

abbrev pub actor_heads : Cells
actor_heads =
    Word (codes "Actor") ∷ Word (codes "First") ∷ Word (codes "Last")
    ∷ Word (codes "Days worked") ∷ Word (codes "Rate") ∷ Word (codes "Pay for work")
    ∷ Word (codes "Days held") ∷ Word (codes "Hold rate") ∷ Word (codes "Pay for holding")
    ∷ Word (codes "Pay") ∷ []

-- the row of an actor: name, first and last day, days worked, rate, pay for work, days held, hold rate, pay for holding,
-- and pay
abbrev pub actor_cells : InstanceData → List ℕ → ℕ → Cells
actor_cells inst crews actor =
    let earned = earned_by (film_of inst) crews actor in
    Name (slice_index_or (map (λ its. its.name) inst.actors) actor [])
    ∷ Number (first_day crews actor) ∷ Number (last_day crews actor)
    ∷ Number earned.worked ∷ Number (slice_index (film_of inst).rates actor) ∷ Number earned.work_pay
    ∷ Number earned.held ∷ Number (slice_index (film_of inst).holds actor) ∷ Number earned.hold_pay
    ∷ Number (earned.work_pay + earned.hold_pay) ∷ []

-- the row of what all actors' days come to
abbrev pub total_cells : Earned → Cells
total_cells total =
    Word (codes "Total") ∷ Empty ∷ Empty
    ∷ Number total.worked ∷ Empty ∷ Number total.work_pay
    ∷ Number total.held ∷ Empty ∷ Number total.hold_pay
    ∷ Number (total.work_pay + total.hold_pay) ∷ []

abbrev pub actors_table : InstanceData → List ℕ → List ℕ
actors_table inst crews =
    table_text actor_heads (map (actor_cells inst crews) (range_with_len 0 (length inst.actors)))
    (total_cells (earned_by_all (film_of inst) crews) ∷ [])

-- the table, if there are actors
abbrev pub actors_part : InstanceData → List ℕ → List ℕ
actors_part inst order =
    if length inst.actors == 0 then []
    else codes "<h2>Actors</h2>\n" ++ actors_table inst (crews_of (film_of inst) order)
