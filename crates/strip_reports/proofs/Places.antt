-- Who works in the first scenes of a list and in one more, and sets of numbers below a limit.
use Rattle.std.proofs.Common.{◌≡◌, ℕ, ◌+◌, ◌<◌, Bool, false, ◌||◌, List, length, get_or, take, inl, inr, ap, ◌∙◌}
use Rattle.std.specs.List.{list_any}
use Rattle.std.proofs.lemmas.List.{take_more}
use Rattle.strip_mask.specs.Set.{LiesBelow, has, meet, union}
use Rattle.strip_mask.proofs.ByMembers.{has-empty, has_from_meet, has_from_union}
use Rattle.strip_model.proofs.Spans.{any-push}

-- whether one of the first elements passes, with the next
pub any_more : (p : ℕ → Bool) (xs : List ℕ) (i : ℕ) → i < length xs → list_any p (take (i + 1) xs) ≡ (list_any p (take i xs) || p (get_or xs i 0))
any_more p xs i lt = ap (list_any p) (take_more xs i 0 lt) ∙ any-push p (take i xs) (get_or xs i 0)

-- sets of numbers below a limit
pub empty_lies : (n : ℕ) → LiesBelow n 0
empty_lies n = λ i there. absurd (let none : has 0 i ≡ false = has-empty i in cc)

pub union_lies : (n a b : ℕ) → LiesBelow n a → LiesBelow n b → LiesBelow n (union a b)
union_lies n a b first second = λ i there. elim (has_from_union a b i there) [ inl in_first ↦ first i in_first | inr in_second ↦ second i in_second ]

pub meet_lies : (n a b : ℕ) → LiesBelow n a → LiesBelow n (meet a b)
meet_lies n a b first = λ i there. first i (has_from_meet a b i there).0
