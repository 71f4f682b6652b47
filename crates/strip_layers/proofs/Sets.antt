-- The sets of lines, as a list beside them.
use Rattle.std.proofs.Common.{◌≡◌, ℕ, ◌+◌, ◌<◌, ◌==◌, Bool, false, cond, ltb, not, nat_eq, List, [], ◌∷◌, ◌++◌, length, map, set, get_or, Some, None, inl, inr, refl, sym, ap, ◌∙◌, arith}
use Rattle.std.specs.List.{list_any, position, position_or_len}
use Rattle.indexmap.specs.IndexSet.{insert_key}
use Rattle.std.proofs.lemmas.Bool.{cases_lt, cond-false, cond-true, eqb-true, lt-ltb}
use Rattle.std.proofs.lemmas.Cmp.{nat_eq_equiv}
use Rattle.std.proofs.lemmas.List.{get_or-map, length-map, map-append}
use Rattle.std.proofs.lemmas.List.Folds.{list_any_none}
use Rattle.std.proofs.lemmas.List.Quantifiers.{position-Some}
use Rattle.std.proofs.lemmas.List.Sums.{fails_before_first}
use Rattle.std.proofs.Math.Seq.{map-set_same}
use Rattle.strip_film.specs.declared.shared.Line.{Line}
use Rattle.strip_lines.specs.Lines.{line_at, no_line}

abbrev pub sets : List Line → List ℕ
sets = map (λ line. line.set)

-- the line has this set
abbrev pub has_set : ℕ → Line → Bool
has_set set line = line.set == set

-- ---- a place by a set

first_by_set : (set : ℕ) (lines : List Line) → position_or_len (nat_eq set) (sets lines) ≡ position_or_len (has_set set) lines
first_by_set set [] = refl
first_by_set set (line ∷ lines) = λ i. cond (not (nat_eq_equiv.symm set line.set i)) (1 + first_by_set set lines i) 0

pub place_by_set : (set : ℕ) (lines : List Line) → position (nat_eq set) (sets lines) ≡ position (has_set set) lines
place_by_set set lines = λ i.
    cond (ltb (first_by_set set lines i) (length-map lines (λ line. line.set) i)) (Some (first_by_set set lines i)) None

-- the line at the place that was found has the set
pub found_set : (set place : ℕ) (lines : List Line) → position (has_set set) lines ≡ Some place → (place < length lines) × ((line_at lines place).set ≡ set)
found_set set place lines found =
    let some = position-Some (has_set set) lines place no_line found in (some.0, eqb-true (line_at lines place).set set some.1)

-- without a place no line has the set
pub none_has : (set : ℕ) (lines : List Line) → position (has_set set) lines ≡ None → (k : ℕ) (d : Line) → k < length lines → has_set set (get_or lines k d) ≡ false
none_has set lines none k d within = elim (cases_lt (position_or_len (has_set set) lines) (length lines)) [
  | inl lt ↦ absurd (let here : position (has_set set) lines ≡ Some (position_or_len (has_set set) lines)
      = cond-true (ltb (position_or_len (has_set set) lines) (length lines)) (Some (position_or_len (has_set set) lines)) None (lt-ltb (position_or_len (has_set set) lines) (length lines) lt) in cc)
  | inr le ↦ fails_before_first (has_set set) lines k d (omega (arith, within, le))
]

-- ---- one more, and one that is raised

-- where no line has the set, it stands behind theirs
pub sets_pushed : (keys : List ℕ) (lines : List Line) (line : Line) → keys ≡ sets lines → position (has_set line.set) lines ≡ None
    → insert_key nat_eq keys line.set ≡ sets (lines ++ line ∷ [])
sets_pushed keys lines line are none =
    ap (λ (ns : List ℕ). insert_key nat_eq ns line.set) are
    ∙ cond-false (list_any (nat_eq line.set) (sets lines)) (sets lines) (sets lines ++ line.set ∷ []) absent
    ∙ sym (map-append (λ (l : Line). l.set) lines (line ∷ []))
  where
    absent : list_any (nat_eq line.set) (sets lines) ≡ false
    absent = list_any_none (nat_eq line.set) (sets lines) (λ k d within.
        let here : k < length lines = omega (arith, within, length-map lines (λ (l : Line). l.set)) in
        ap (nat_eq line.set) (get_or-map (λ (l : Line). l.set) lines k no_line d here)
        ∙ nat_eq_equiv.symm line.set (get_or lines k no_line).set
        ∙ none_has line.set lines none k no_line here)

pub sets_raised : (lines : List Line) (place : ℕ) (line d : Line) → line.set ≡ (get_or lines place d).set → sets (set lines place line) ≡ sets lines
sets_raised lines place line d same = map-set_same (λ (l : Line). l.set) lines place line d same
