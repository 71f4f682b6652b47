-- What was handed in and what was taken, by all shares of a list together.
use Rattle.std.proofs.Common.{◌≡◌, ℕ, suc, ◌+◌, ◌<◌, ◌≤◌, All, List, [], ◌∷◌, ◌++◌, Option, Some, None, map, set, refl, sym, ap, ◌∙◌, subst, arith}
use Rattle.std.proofs.lemmas.List.Elements.{All-set, All-weaker}
use mathlib.Core.Option.{some}
use lib.ListN.{get_elem?}
use Rattle.strip_steal.specs.declared.share.Share.{Share}
use Rattle.strip_steal.specs.Rule.{numbers_in, times, total}
use Rattle.strip_steal.specs.Steps.{HasTaken, with_taken}
use Rattle.strip_steal.specs.Taker.{AreShares, IsShare, handed_in, puts, taken_in}
use Rattle.strip_steal.proofs.Numbers.{times-append, times-self}
use Rattle.strip_steal.proofs.Places.{at_of_all, map_same}
use Rattle.strip_steal.proofs.Shares.{total-put}

pub handed-total : (number : ℕ) (shares : List Share) → times number (handed_in shares) ≡ total (λ share. times number (numbers_in share.put)) shares
handed-total number [] = refl
handed-total number (x ∷ xs) = omega (arith, times-append number (numbers_in x.put) (handed_in xs), handed-total number xs)

pub taken-total : (number : ℕ) (shares : List Share) → times number (taken_in shares) ≡ total (λ share. times number share.taken) shares
taken-total number [] = refl
taken-total number (x ∷ xs) = omega (arith, times-append number x.taken (taken_in xs), taken-total number xs)

pub total-le : (f g : Share → ℕ) (shares : List Share) → ((i : ℕ) (share : Share) → get_elem? shares i ≡ some share → f share ≤ g share) → total f shares ≤ total g shares
total-le f g [] each = omega arith
total-le f g (x ∷ xs) each = omega (arith, each 0 x refl, total-le f g xs (λ i share at. each (suc i) share at))

-- what was handed in follows from what was put into each queue
abbrev numbers_of : List (List (Option ℕ)) → List ℕ
numbers_of [] = []
numbers_of (entries ∷ rest) = numbers_in entries ++ numbers_of rest

handed-puts : (shares : List Share) → handed_in shares ≡ numbers_of (puts shares)
handed-puts [] = refl
handed-puts (x ∷ xs) = ap (λ l. numbers_in x.put ++ l) (handed-puts xs)

pub handed-same : (xs ys : List Share) → puts ys ≡ puts xs → handed_in ys ≡ handed_in xs
handed-same xs ys same = handed-puts ys ∙ (ap numbers_of same ∙ sym (handed-puts xs))

abbrev joined_up : List (List ℕ) → List ℕ
joined_up [] = []
joined_up (numbers ∷ rest) = numbers ++ joined_up rest

taken-lists : (shares : List Share) → taken_in shares ≡ joined_up (map (λ (share : Share). share.taken) shares)
taken-lists [] = refl
taken-lists (x ∷ xs) = ap (λ l. x.taken ++ l) (taken-lists xs)

pub taken-same : (xs ys : List Share) → map (λ (share : Share). share.taken) ys ≡ map (λ (share : Share). share.taken) xs → taken_in ys ≡ taken_in xs
taken-same xs ys same = taken-lists ys ∙ (ap joined_up same ∙ sym (taken-lists xs))

-- no number was taken more often than it was handed in
pub few-in : (weight : ℕ) (shares : List Share) → AreShares weight shares → (number : ℕ) → times number (taken_in shares) ≤ times number (handed_in shares)
few-in weight shares are number =
    let le = total-le (λ (share : Share). times number share.taken) (λ (share : Share). times number (numbers_in share.put)) shares
    (λ i share at. (at_of_all (IsShare weight) shares are.each i share at).few number) in
    omega (arith, le, handed-total number shares, taken-total number shares)

-- ---- a number is taken

taken-put : (share : Share) (entry : Option ℕ) → (with_taken share entry).put ≡ share.put
taken-put share None = refl
taken-put share (Some n) = refl

pub puts-asked : (before : List Share) (from : ℕ) (share : Share) (entry : Option ℕ) → get_elem? before from ≡ some share
    → puts (set before from (with_taken share entry)) ≡ puts before
puts-asked before from share entry at = map_same (λ (s : Share). s.put) before from share (with_taken share entry) at (taken-put share entry)

pub shares-given : (before : List Share) (from n : ℕ) (share : Share) → get_elem? before from ≡ some share → HasTaken share (Some n) (with_taken share (Some n))
    → AreShares 1 before → AreShares 1 (set before from (with_taken share (Some n)))
shares-given before from n share at took are =
    let mine = at_of_all (IsShare 1) before are.each from share at in record {
      each = All-set (IsShare 1) before from (with_taken share (Some n)) (record { weighs = mine.weighs; closed = mine.closed; few = took.few }) are.each;
      once = λ number. subst (λ l. times number l ≤ 1)
          (sym (handed-same before (set before from (with_taken share (Some n))) (puts-asked before from share (Some n) at))) (are.once number);
    }

pub taken-given : (before : List Share) (from n : ℕ) (share : Share) → get_elem? before from ≡ some share → (number : ℕ)
    → times number (taken_in (set before from (with_taken share (Some n)))) ≡ times number (taken_in before) + times number (n ∷ [])
taken-given before from n share at number =
    let after : List Share = set before from (with_taken share (Some n)) in
    let put = total-put (λ (s : Share). times number s.taken) before from share (with_taken share (Some n)) at in
    omega (arith, put, times-append number share.taken (n ∷ []), taken-total number before, taken-total number after)

-- the number was handed in, and wasn't taken
pub fresh-given : (before : List Share) (from n : ℕ) (share : Share) → get_elem? before from ≡ some share → HasTaken share (Some n) (with_taken share (Some n))
    → AreShares 1 before → (times n (handed_in before) ≡ 1) × (times n (taken_in before) ≡ 0)
fresh-given before from n share at took are =
    let after : List Share = set before from (with_taken share (Some n)) in
    let few = few-in 1 after (shares-given before from n share at took are) n in
    let more = taken-given before from n share at n in
    let same : times n (handed_in after) ≡ times n (handed_in before) = ap (times n) (handed-same before after (puts-asked before from share (Some n) at)) in
    let one = times-self n in
    let once = are.once n in (omega (arith, few, more, same, one, once), omega (arith, few, more, same, one, once))

-- the shares weigh something
pub weigh-some : (weight : ℕ) (shares : List Share) → 0 < weight → AreShares weight shares → All (λ share. 0 < share.weight) shares
weigh-some weight shares some_ are = All-weaker (IsShare weight) (λ (s : Share). 0 < s.weight) (λ s is. omega (arith, is.weighs, some_)) shares are.each

pub weigh-two : (rest : ℕ) (shares : List Share) → AreShares (suc (suc rest)) shares → All (λ share. 2 ≤ share.weight) shares
weigh-two rest shares are = All-weaker (IsShare (suc (suc rest))) (λ (s : Share). 2 ≤ s.weight) (λ s is. omega (arith, is.weighs)) shares are.each
