-- A state stays on its way.
use Rattle.std.proofs.Common.{◌≡◌, ℕ, ◌+◌, ◌*◌, ◌<◌, ◌≤◌, Bool, true, false, not, ◌&&◌, ◌==◌, length, slice_index, sum, refl, sym, ap, subst, arith}
use Rattle.std.specs.List.{remove}
use Rattle.std.proofs.Math.Nat.{mul-le-mul_left}
use Rattle.std.proofs.lemmas.Nat.{mul-le}
use Rattle.std.proofs.lemmas.List.Sums.{sum_by-remove}
use Rattle.strip_model.specs.Film.{FilmData}
use Rattle.strip_film.specs.Film.{IsFilmUpTo}
use Rattle.strip_reduce.specs.State.{State, start}
use Rattle.strip_reduce.specs.Steps.{actors_joined, can_join_actors, can_join_scenes, dropped, is_paired, scenes_joined, work_days}
use Rattle.strip_reduce.specs.Search.{NoTwoBelow}
use Rattle.strip_reduce.specs.declared.draft.Compared.{Compared}
use Rattle.strip_reduce.specs.Draft.{IsDraft}
use Rattle.strip_reduce.proofs.NoTwo.{none-actors, none-counted, none-without}
use Rattle.strip_reduce.proofs.Days.{days_within}
use Rattle.strip_reduce.proofs.Limits.{length-summed, limits-actors_joined, limits-dropped, limits-scenes_joined, limits-start, sum-summed}

-- what is set apart was paid for some of the days at the rate
pay-dropped : (apart days rates rate worked rest limit : ℕ) → rest + rate ≡ rates → worked ≤ days → apart + days * rates ≤ limit
    → apart + rate * worked + days * rest ≤ limit
pay-dropped apart days rates rate worked rest limit parts some within =
    let product : days * rates ≡ days * (rest + rate) = ap (λ (x : ℕ). days * x) (sym parts) in
    let paid : rate * worked ≤ rate * days = mul-le-mul_left rate some in
    omega arith

-- nothing was compared
none_compared : (n : ℕ) (test : ℕ → ℕ → Bool) → NoTwoBelow 0 n test
none_compared n test = record { each = λ i j lt past small. absurd (omega arith) }

pub draft-dropped : (state : State) (compared : Compared) (actor : ℕ) → actor < length state.film.rates → IsDraft state compared
    → IsDraft (dropped state actor) (record { scenes = 0; actors = 0 })
draft-dropped state compared actor known way = record {
  state = limits-dropped state actor known way.state;
  pay = pay-dropped state.apart (sum state.film.days) (sum state.film.rates) (slice_index state.film.rates actor) (work_days state.film actor) (sum (remove state.film.rates actor)) (19800 * 64_000_000_000)
      (sum_by-remove (λ x. x) state.film.rates actor 0 known) (days_within state.film.casts state.film.days (length state.film.casts) actor) way.pay;
  scenes = none_compared (length (dropped state actor).film.casts) (can_join_scenes (dropped state actor).film);
  actors = none_compared (length (dropped state actor).film.rates) (can_join_actors (dropped state actor).film);
}

single : (film : FilmData) (a b : ℕ) → can_join_scenes film a b ≡ true → is_paired film.pairs b ≡ false
single film a b equal = last (slice_index film.casts a == slice_index film.casts b) (is_paired film.pairs a) (is_paired film.pairs b) equal
  where
    last : (x y z : Bool) → (x && (not y && not z)) ≡ true → z ≡ false
    last true false false e = refl
    last true false true e = absurd (cc)
    last true true z e = absurd (cc)
    last false y z e = absurd (cc)

pub draft-scenes_joined : (state : State) (compared : Compared) (a b : ℕ) → a < b → b < length state.film.casts → can_join_scenes state.film a b ≡ true
    → NoTwoBelow a (length state.film.casts) (can_join_scenes state.film) → IsDraft state compared
    → IsDraft (scenes_joined state a b) (record { scenes = a; actors = 0 })
draft-scenes_joined state compared a b rise known equal apart way = record {
  state = limits-scenes_joined state a b rise known way.state equal;
  pay = (
      let there : b < length state.film.days = subst (λ (n : ℕ). b < n) (sym way.state.film.day_count) known in
      subst (λ (days : ℕ). state.apart + days * sum state.film.rates ≤ 19800 * 64_000_000_000) (sym (sum-summed state.film.days a b rise there)) way.pay);
  scenes = none-without state.film (scenes_joined state a b).film a b rise known (single state.film a b equal) refl refl apart;
  actors = none_compared (length state.film.rates) (can_join_actors (scenes_joined state a b).film);
}

pub draft-actors_joined : (state : State) (compared : Compared) (a b : ℕ) → a < b → b < length state.film.rates → can_join_actors state.film a b ≡ true
    → NoTwoBelow a (length state.film.rates) (can_join_actors state.film)
    → NoTwoBelow (length state.film.casts) (length state.film.casts) (can_join_scenes state.film) → IsDraft state compared
    → IsDraft (actors_joined state a b) (record { scenes = length state.film.casts; actors = a })
draft-actors_joined state compared a b rise known alike apart no_scenes way = record {
  state = limits-actors_joined state a b rise known way.state;
  pay = subst (λ (rates : ℕ). state.apart + sum state.film.days * rates ≤ 19800 * 64_000_000_000) (sym (sum-summed state.film.rates a b rise known)) way.pay;
  scenes = none-counted state.film (actors_joined state a b).film (length state.film.casts) a b (length state.film.rates) way.state.film.actor_count rise way.state.film.casts alike refl refl no_scenes;
  actors = none-actors state.film (actors_joined state a b).film a b (length state.film.rates) (length (actors_joined state a b).film.rates) rise known (length-summed state.film.rates a b known) refl apart;
}

pub draft-start : (film : FilmData) → IsFilmUpTo 200 film → IsDraft (start film) (record { scenes = 0; actors = 0 })
draft-start film is = record {
  state = limits-start film is;
  pay = (let within : sum film.days * sum film.rates ≤ 19800 * 64_000_000_000 = mul-le (sum film.days) (sum film.rates) 19800 64_000_000_000 is.day_sum is.rate_sum in omega arith);
  scenes = none_compared (length film.casts) (can_join_scenes film);
  actors = none_compared (length film.rates) (can_join_actors film);
}

-- the same state, compared as far
pub draft-same : (here there : State) (compared from : Compared) → here ≡ there → compared ≡ from → IsDraft there from → IsDraft here compared
draft-same here there compared from same same_from way = subst (λ (at : State). IsDraft at compared) (sym same) (subst (IsDraft there) (sym same_from) way)
