-- Asks that are dealt to workers by turns.
use Rattle.std.proofs.Common.{ℕ, ◌/◌, ◌%◌, ◌<◌, List, length, slice_index_or, vec_len, subst, arith}
use Rattle.std.proofs.Math.Nat.{div-lt_iff_lt-mul, mod-lt}
use Rattle.std.proofs.lemmas.List.{get_or_default}
use Rattle.std.proofs.lemmas.Nat.{div-add-mod'}
use Rattle.strip_model.specs.declared.kind.Kind.{Kind}
use Rattle.strip_model.specs.Film.{FilmData}
use Rattle.strip_layers.specs.declared.ask.Ask.{Ask}
use Rattle.strip_crew.specs.declared.answering.Share.{Share}
use Rattle.strip_crew.specs.Spread.{AreShares, AreValues, HasTurns, IsValue}

-- an ask belongs to a turn of its worker
pub turn_below : (workers number : ℕ) (shares : List Share) (asks : ℕ) (d : Share) → AreShares asks workers shares → 0 < workers → number < asks
    → number / workers < vec_len (slice_index_or shares (number % workers) d).values
turn_below workers number shares asks d are some below =
    let turns : HasTurns asks workers (slice_index_or shares (number % workers) d)
    = are.each (number % workers) d (omega (arith, are.count, mod-lt number some)) in
    (div-lt_iff_lt-mul some).1 (omega (arith, below, turns.all))

-- an ask's value stands in its worker's share, at its turn
pub value_of_ask : (kind : Kind) (film : FilmData) (asks : List Ask) (workers number : ℕ) (shares : List Share) (d : Share) (e : ℕ)
    → AreValues kind film asks workers shares → 0 < workers → number < length asks
    → IsValue kind film asks number (slice_index_or (slice_index_or shares (number % workers) d).values.items (number / workers) e)
value_of_ask kind film asks workers number shares d e are some below =
    let share : Share = slice_index_or shares (number % workers) d in
    let turn : ℕ = number / workers in
    let within : turn < vec_len share.values = turn_below workers number shares (length asks) d are.are some below in
    subst (λ (value : ℕ). IsValue kind film asks number value) (get_or_default share.values.items turn 0 e (omega (arith, within, share.values.ok)))
    (subst (λ (n : ℕ). IsValue kind film asks n (slice_index_or share.values.items turn 0)) (div-add-mod' number workers)
    ((are.each (number % workers) d (mod-lt number some)).each turn within))
