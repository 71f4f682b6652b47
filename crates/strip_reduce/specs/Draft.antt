-- A state that steps are taken on.
use Rattle.std.specs.Prelude.{◌+◌, ◌*◌, ◌≤◌, length, map, sum}
use Rattle.strip_film.specs.Film.{film_data}
use Rattle.strip_reduce.specs.declared.draft.Draft.{Draft}
use Rattle.strip_reduce.specs.declared.draft.Compared.{Compared}
use Rattle.strip_reduce.specs.State.{IsState, State}
use Rattle.strip_reduce.specs.Steps.{can_join_actors, can_join_scenes}
use Rattle.strip_reduce.specs.Search.{NoTwoBelow}

-- the state that a draft has come to
abbrev pub draft_state : Draft → State
draft_state draft = record {
  film = film_data draft.casts.items draft.days.items draft.rates.items draft.holds.items draft.pairs.items;
  members = map (λ list. list.items) draft.members.items;
  apart = draft.apart;
}

-- a state that steps can be taken on: what is set apart and all days at all rates are together at most what those
-- of an instance are, so that no sum overflows; and no scene or actor that was compared can be joined with a later
-- one
pub record IsDraft (at : State) (compared : Compared) : Type 0 where
  pub state : IsState at
  pub pay : at.apart + sum at.film.days * sum at.film.rates ≤ 19800 * 64_000_000_000
  pub scenes : NoTwoBelow compared.scenes (length at.film.casts) (can_join_scenes at.film)
  pub actors : NoTwoBelow compared.actors (length at.film.rates) (can_join_actors at.film)
