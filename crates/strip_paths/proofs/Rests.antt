-- What paths leave, as a list beside them.
use Rattle.std.proofs.Common.{◌≡◌, ◌≢◌, ℕ, ◌+◌, ◌<◌, false, cond, ltb, not, nat_eq, List, [], ◌∷◌, ◌++◌, length, map, get_or, take, Some, None, refl, sym, ap, ◌∙◌, arith}
use Rattle.std.specs.List.{AllPairs, list_any, position, position_or_len}
use Rattle.std.specs.List.Sorted.{IsPermutation}
use Rattle.std.proofs.lemmas.Bool.{cond-false, ne_eqb}
use Rattle.std.proofs.lemmas.Bool.Decides.{Decides-eqb}
use Rattle.std.proofs.lemmas.Cmp.{nat_eq_equiv}
use Rattle.std.proofs.lemmas.List.{get_or_default, get_or-map, get_or-take, length-map, length-take-le, map-append, take_more}
use Rattle.std.proofs.lemmas.List.Folds.{list_any_none}
use Rattle.std.proofs.lemmas.List.Sorted.{IsPermutation-map}
use Rattle.std.proofs.lemmas.Map.Keys.{IsDistinct-IsPermutation}
use Rattle.std.proofs.lemmas.Map.Made.{AllPairs-from_IsDistinct, IsDistinct-from_AllPairs}
use Rattle.indexmap.specs.IndexSet.{insert_key}
use Rattle.strip_film.specs.Path.{PathData}
use Rattle.strip_lines.specs.Parts.{no_task}
use Rattle.strip_paths.proofs.Placed.{leaves, none_leaves}

abbrev pub rests : List PathData → List ℕ
rests = map (λ path. path.rest)

abbrev pub LeaveOthers : List PathData → Type 0
LeaveOthers = AllPairs (λ a b. a.rest ≢ b.rest)

-- ---- paths that leave different sets

pub others_from : (paths : List PathData) → LeaveOthers paths → AllPairs (λ x y. x ≢ y) (rests paths)
others_from paths others i j d before within same =
    let count : length (rests paths) ≡ length paths = length-map paths (λ path. path.rest) in
    others i j no_task before (omega (arith, within, count))
    (sym (get_or-map (λ path. path.rest) paths i no_task d (omega (arith, before, within, count)))
    ∙ same ∙ get_or-map (λ path. path.rest) paths j no_task d (omega (arith, within, count)))

others_to : (paths : List PathData) → AllPairs (λ x y. x ≢ y) (rests paths) → LeaveOthers paths
others_to paths others i j d before within same =
    let count : length (rests paths) ≡ length paths = length-map paths (λ path. path.rest) in
    others i j 0 before (omega (arith, within, count))
    (get_or-map (λ path. path.rest) paths i d 0 (omega (arith, before, within))
    ∙ same ∙ sym (get_or-map (λ path. path.rest) paths j d 0 within))

-- and so they do in any order
pub others_permuted : (paths more : List PathData) → IsPermutation paths more → LeaveOthers paths → LeaveOthers more
others_permuted paths more same others =
    others_to more (AllPairs-from_IsDistinct Decides-eqb (rests more)
    (IsDistinct-IsPermutation nat_eq nat_eq_equiv.symm (rests paths) (rests more) (IsPermutation-map (λ path. path.rest) paths more same)
    (IsDistinct-from_AllPairs Decides-eqb (rests paths) (others_from paths others))))

-- ---- a place by what is left

first_by_rest : (rest : ℕ) (paths : List PathData) → position_or_len (nat_eq rest) (rests paths) ≡ position_or_len (leaves rest) paths
first_by_rest rest [] = refl
first_by_rest rest (path ∷ paths) = λ i. cond (not (nat_eq_equiv.symm rest path.rest i)) (1 + first_by_rest rest paths i) 0

pub place_by_rest : (rest : ℕ) (paths : List PathData) → position (nat_eq rest) (rests paths) ≡ position (leaves rest) paths
place_by_rest rest paths = λ i.
    cond (ltb (first_by_rest rest paths i) (length-map paths (λ path. path.rest) i)) (Some (first_by_rest rest paths i)) None

-- ---- one more

-- where no path leaves the set, it stands behind theirs
pub rests_pushed : (keys : List ℕ) (paths : List PathData) (path : PathData) (rest : ℕ) → keys ≡ rests paths → rest ≡ path.rest
    → position (leaves path.rest) paths ≡ None → insert_key nat_eq keys rest ≡ rests (paths ++ path ∷ [])
rests_pushed keys paths path rest are is none =
    ap (λ (n : ℕ). insert_key nat_eq keys n) is
    ∙ ap (λ (ns : List ℕ). insert_key nat_eq ns path.rest) are
    ∙ cond-false (list_any (nat_eq path.rest) (rests paths)) (rests paths) (rests paths ++ path.rest ∷ []) absent
    ∙ sym (map-append (λ (p : PathData). p.rest) paths (path ∷ []))
  where
    absent : list_any (nat_eq path.rest) (rests paths) ≡ false
    absent = list_any_none (nat_eq path.rest) (rests paths) (λ k d within.
        let here : k < length paths = omega (arith, within, length-map paths (λ (p : PathData). p.rest)) in
        ap (nat_eq path.rest) (get_or-map (λ (p : PathData). p.rest) paths k no_task d here)
        ∙ nat_eq_equiv.symm path.rest (get_or paths k no_task).rest
        ∙ none_leaves path.rest paths none k no_task here)

-- the sets of a list that differ, one after the other
pub rests_taken : (keys all : List ℕ) (i key : ℕ) → AllPairs (λ x y. x ≢ y) all → keys ≡ take i all → i < length all → key ≡ get_or all i 0
    → insert_key nat_eq keys key ≡ take (i + 1) all
rests_taken keys all i key others are within is =
    ap (λ (n : ℕ). insert_key nat_eq keys n) is
    ∙ ap (λ (ns : List ℕ). insert_key nat_eq ns (get_or all i 0)) are
    ∙ cond-false (list_any (nat_eq (get_or all i 0)) (take i all)) (take i all) (take i all ++ get_or all i 0 ∷ []) absent
    ∙ sym (take_more all i 0 within)
  where
    absent : list_any (nat_eq (get_or all i 0)) (take i all) ≡ false
    absent = list_any_none (nat_eq (get_or all i 0)) (take i all) (λ k d here.
        let before : k < i = omega (arith, here, length-take-le i all (omega (arith, within))) in
        ap (nat_eq (get_or all i 0)) (get_or-take i all k d before ∙ get_or_default all k d 0 (omega (arith, before, within)))
        ∙ ne_eqb (get_or all i 0) (get_or all k 0) (λ same. others k i 0 before within (sym same)))
