-- A list from which a place is taken out.
use Rattle.std.proofs.Common.{◌≡◌, ℕ, suc, ◌+◌, ◌<◌, ◌≤◌, List, length, map, take, drop, get_or, sum, ap, ◌∙◌, refl, arith}
use Rattle.std.specs.List.{remove}
use Rattle.std.proofs.lemmas.List.{map-append, take-map, drop-map}
use Rattle.std.proofs.lemmas.List.Edits.{length-remove}
use Rattle.std.proofs.lemmas.List.Sums.{sum_by-remove}

pub map-remove : {X Y : Type 0} (f : X → Y) (xs : List X) (i : ℕ) → map f (remove xs i) ≡ remove (map f xs) i
map-remove f xs i = map-append f (take i xs) (drop (suc i) xs) ∙ rw (take-map, drop-map) refl

-- the values at two places are within the sum; `rest` is what is left when the second is taken out
pub two_fit : (values rest : List ℕ) (a b first second : ℕ) → a < b → b < length values
    → rest ≡ remove values b → first ≡ get_or rest a first → second ≡ get_or values b second → first + second ≤ sum values
two_fit values rest a b first second rise below left is_first is_second =
    let gone : sum (remove values b) + get_or values b second ≡ sum values = sum_by-remove (λ x. x) values b second below in
    let long : length (remove values b) + 1 ≡ length values = length-remove values b below in
    let small : a < length (remove values b) = omega arith in
    let kept : sum (remove (remove values b) a) + get_or (remove values b) a first ≡ sum (remove values b) = sum_by-remove (λ x. x) (remove values b) a first small in
    let here : first ≡ get_or (remove values b) a first = is_first ∙ ap (λ (xs : List ℕ). get_or xs a first) left in
    omega arith
