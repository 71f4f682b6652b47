-- The turns of a `for` over a set: `done` is what was yielded, `rest` what was left at the turn's start, and `left` what is left after i.
use Rattle.std.proofs.Common.{◌≡◌, ℕ, ◌+◌, ◌<◌, ◌≤◌, true, List, [], ◌∷◌, ◌++◌, sum_by, get_or, length, length-append, slice_index, Contains, sym, subst, ap, ◌∙◌, arith, append-nil, refl}
use Rattle.std.proofs.Math.ListN.{get_or-append}
use Rattle.std.proofs.Math.Seq.{get_or-append_seam}
use Rattle.std.proofs.lemmas.List.Elements.{Contains-append_right}
use Rattle.std.proofs.lemmas.List.Kept.{AllPairs-from_increasing}
use Rattle.std.proofs.lemmas.List.Sums.{sum_by-append, sum_by-cons}
use Rattle.std.specs.Iterator.{Yields, YieldsFirst}
use Rattle.strip_mask.specs.declared.mask.MaskIter.{MaskIter}
use Rattle.strip_mask.specs.Iter.{rest_of}
use Rattle.strip_mask.specs.Set.{has, members, sum_over}
use Rattle.strip_mask.proofs.Members.{has_from_members, below_from_members, members_rise}

-- what was yielded and what is left, by the loop's `yielded_by`, are the members of the set that s began with
pub turns_so_far : (a : ℕ) (s t : MaskIter) (done : List ℕ) → rest_of s ≡ members a → Yields (YieldsFirst rest_of) s done t → done ++ rest_of t ≡ members a
turns_so_far a s t done start led = so_far done s led ∙ start
  where
    so_far : (xs : List ℕ) (s : MaskIter) → Yields (YieldsFirst rest_of) s xs t → xs ++ rest_of t ≡ rest_of s
    so_far [] s led = ap rest_of (sym led)
    so_far (x ∷ xs) s (j, step, led) = ap (λ (ys : List ℕ). x ∷ ys) (so_far xs j led) ∙ sym step

-- the number of a turn stands among the members
turn_there : (a i : ℕ) (done rest left : List ℕ) → done ++ rest ≡ members a → rest ≡ i ∷ left → Contains (members a) i
turn_there a i done rest left all here =
    let P : List ℕ → Type 0 = λ xs. Contains xs i in
    subst P (ap (λ (xs : List ℕ). done ++ xs) (sym here) ∙ all) (Contains-append_right done (i ∷ left) i (0, omega arith, refl))

-- so the set has it
pub turn_member : (a i : ℕ) (done rest left : List ℕ) → done ++ rest ≡ members a → rest ≡ i ∷ left → has a i ≡ true
turn_member a i done rest left all here = has_from_members a i (turn_there a i done rest left all here)

-- and it is below 64
pub turn_below : (a i : ℕ) (done rest left : List ℕ) → done ++ rest ≡ members a → rest ≡ i ∷ left → i < 64
turn_below a i done rest left all here = below_from_members a i (turn_there a i done rest left all here)

-- what was yielded before a turn is less, as the members rise
pub lesser_before : (a i : ℕ) (done left : List ℕ) → done ++ i ∷ left ≡ members a → (j : ℕ) → Contains done j → j < i
lesser_before a i done left all j (place, within, at) =
    let risen = subst (λ (xs : List ℕ). (i j d : ℕ) → i < j → j < length xs → get_or xs i d < get_or xs j d) (sym all)
    (AllPairs-from_increasing (members a) (members_rise a)) in
    let less : get_or (done ++ i ∷ left) place j < get_or (done ++ i ∷ left) (length done) j
    = risen place (length done) j within (omega (arith, length-append done (i ∷ left))) in
    omega (arith, less, get_or-append done (i ∷ left) j place within, at, get_or-append_seam done i left j)

-- the sum so far with the turn's value is within the whole
pub turn_fits : (v : List ℕ) (a i : ℕ) (done rest left : List ℕ) → done ++ rest ≡ members a → rest ≡ i ∷ left → sum_by (slice_index v) done + slice_index v i ≤ sum_over v a
unfolding sum_over
turn_fits v a i done rest left all here =
    let whole : sum_by (slice_index v) (members a) ≡ sum_by (slice_index v) done + sum_by (slice_index v) (i ∷ left) = ap (sum_by (slice_index v)) (sym all ∙ ap (λ (xs : List ℕ). done ++ xs) here) ∙ sum_by-append (slice_index v) done (i ∷ left) in
    let first : sum_by (slice_index v) (i ∷ left) ≡ slice_index v i + sum_by (slice_index v) left = sum_by-cons (slice_index v) i left in
    omega arith

-- at the end the members were yielded
pub turns_all : (a : ℕ) (done rest : List ℕ) → done ++ rest ≡ members a → rest ≡ [] → done ≡ members a
turns_all a done rest all none = sym (append-nil done) ∙ ap (λ (xs : List ℕ). done ++ xs) (sym none) ∙ all

-- and the sum of their values is the sum over the set
pub turns_sum : (v : List ℕ) (a : ℕ) (done rest : List ℕ) → done ++ rest ≡ members a → rest ≡ [] → sum_by (slice_index v) done ≡ sum_over v a
unfolding sum_over
turns_sum v a done rest all none = ap (sum_by (slice_index v)) (turns_all a done rest all none)
