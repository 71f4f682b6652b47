-- What the days of an actor, or of all, come to.
use Rattle.std.specs.Prelude.{ℕ, ◌+◌, ◌*◌, List, length, slice_index}
use Rattle.strip_mask.specs.Sums.{sum_below}
use Rattle.strip_model.specs.Film.{FilmData}
use Rattle.strip_reports.specs.declared.sums.Sums.{Sums}
use Rattle.strip_reports.specs.Days.{work_days, hold_days}

-- the days that an actor works at his rate, and those that he waits at his hold rate
abbrev pub pay_for : FilmData → List ℕ → ℕ → ℕ
pay_for film crews actor = slice_index film.rates actor * work_days crews actor
    + slice_index film.holds actor * hold_days crews actor

abbrev pub sums_of : FilmData → List ℕ → ℕ → Sums
sums_of film crews actor = record { work = work_days crews actor; hold = hold_days crews actor; pay = pay_for film crews actor }

-- the sums over all actors
abbrev pub total_of : FilmData → List ℕ → Sums
total_of film crews = record {
  work = sum_below (length film.rates) (work_days crews);
  hold = sum_below (length film.rates) (hold_days crews);
  pay = sum_below (length film.rates) (pay_for film crews);
}
