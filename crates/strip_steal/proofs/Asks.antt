-- A taker asks one queue.
use Rattle.std.proofs.Common.{◌≡◌, ℕ, true, false, List, Option, Some, None, MatchOption, map, set, sym, ap, subst}
use Rattle.std.proofs.lemmas.List.{map-set}
use Rattle.std.specs.Prelude.{IfNone}
use mathlib.Core.Option.{some}
use lib.ListN.{get_elem?}
use Rattle.crossbeam_deque.proofs.Lists.{at_map}
use Rattle.strip_steal.specs.declared.seat.Seat.{Seat}
use Rattle.strip_steal.specs.declared.share.Share.{Share}
use Rattle.strip_steal.specs.Seat.{share_of}
use Rattle.strip_steal.specs.Steps.{HasTaken, IsAsked, with_taken}

shares_asked : (before : List Share) (from : ℕ) (v w : Share) (answer : Option ℕ) → get_elem? before from ≡ some v
    → MatchOption answer (w.ended ≡ true) (λ _. v.ended ≡ false) → MatchOption answer (w.taken ≡ v.taken) (λ number. HasTaken v (Some number) w)
    → IfNone answer (w ≡ with_taken v None) → IsAsked before from answer (set before from w)
shares_asked before from v w None at ended taken kept = record { share = v; here = at; only = ap (set before from) kept; given = tt }
shares_asked before from v w (Some number) at ended taken kept = record {
  share = v;
  here = at;
  only = ap (set before from) taken.only;
  given = (ended, subst (HasTaken v (Some number)) taken.only taken);
}

pub asked : (seats : List Seat) (from : ℕ) (seat now : Seat) (answer : Option ℕ) → get_elem? seats from ≡ some seat
    → MatchOption answer ((share_of now).ended ≡ true) (λ _. (share_of seat).ended ≡ false)
    → MatchOption answer ((share_of now).taken ≡ (share_of seat).taken) (λ number. HasTaken (share_of seat) (Some number) (share_of now))
    → IfNone answer (share_of now ≡ with_taken (share_of seat) None) → IsAsked (map share_of seats) from answer (map share_of (set seats from now))
asked seats from seat now answer at ended taken kept =
    subst (IsAsked (map share_of seats) from answer) (sym (map-set share_of seats from now))
    (shares_asked (map share_of seats) from (share_of seat) (share_of now) answer (at_map share_of seats from seat at) ended taken kept)
