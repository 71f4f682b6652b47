-- Lines that have different sets go on to have them.
use Rattle.std.proofs.Common.{◌≡◌, ◌≢◌, ℕ, ◌<◌, ◌≤◌, List, [], ◌∷◌, ◌++◌, length, get_or, Some, None, inl, inr, max, sym, ap, ◌∙◌, subst, arith}
use Rattle.std.specs.List.{position}
use Rattle.std.proofs.lemmas.Bool.{cases_lt, eq-eqb, false≢true}
use Rattle.std.proofs.lemmas.List.{get_or_default}
use Rattle.std.proofs.lemmas.List.Quantifiers.{all_pairs_push}
use Rattle.strip_film.specs.declared.shared.Line.{Line}
use Rattle.strip_film.specs.Rules.{Rules}
use Rattle.strip_lines.specs.Lines.{GrowTo, known, line_at, no_line}
use Rattle.strip_lines.proofs.Grown.{known-least, known-line, known-static}
use Rattle.strip_lines.specs.Apart.{AreApart}
use Rattle.strip_layers.proofs.Sets.{found_set, has_set, none_has}

-- lines that have the same sets in their order
pub apart_same : (lines more : List Line) → GrowTo lines more → length more ≡ length lines → AreApart lines → AreApart more
apart_same lines more grow as_many apart i j d before within =
    let here : j < length lines = omega (arith, within, as_many) in
    let there : i < length lines = omega (arith, before, here) in
    (λ same. apart i j no_line before here
    (sym (grow.same_set i there)
    ∙ ap (λ (line : Line). line.set) (get_or_default more i no_line d (omega (arith, there, as_many)))
    ∙ same
    ∙ ap (λ (line : Line). line.set) (get_or_default more j d no_line within)
    ∙ grow.same_set j here))

-- one more line, whose set no other has
pub apart_more : (lines : List Line) (line : Line) → AreApart lines → position (has_set line.set) lines ≡ None → AreApart (lines ++ line ∷ [])
apart_more lines line apart none =
    all_pairs_push (λ a b. a.set ≢ b.set) lines line apart
    (λ k d within same. false≢true (sym (none_has line.set lines none k d within) ∙ eq-eqb (get_or lines k d).set line.set same))

-- what is known of the set of a line that stands, and of a set that no line has
pub known_there : (rules : Rules) (lines : List Line) (set place : ℕ) → AreApart lines → position (has_set set) lines ≡ Some place
    → max (line_at lines place).bound (rules.bound set) ≡ known rules lines set
known_there rules lines set place apart found =
    let some = found_set set place lines found in
    let line : (line_at lines place).bound ≤ known rules lines set
    = subst (λ (q : ℕ). (line_at lines place).bound ≤ known rules lines q) some.1 (known-line rules lines place some.0) in
    let most : known rules lines set ≤ max (line_at lines place).bound (rules.bound set)
    = known-least rules lines set (max (line_at lines place).bound (rules.bound set)) (omega arith) (λ other within same.
    let this : other ≡ place = one other within (same ∙ sym some.1) in
    omega (arith, ap (λ (n : ℕ). (line_at lines n).bound) this)) in
    omega (arith, line, most, known-static rules lines set)
  where
    one : (other : ℕ) → other < length lines → (line_at lines other).set ≡ (line_at lines place).set → other ≡ place
    one other within same =
        let there : place < length lines = (found_set set place lines found).0 in
        elim (cases_lt other place) [
          | inl less ↦ absurd (apart other place no_line less there same)
          | inr more ↦ elim (cases_lt place other) [
            | inl greater ↦ absurd (apart place other no_line greater within (sym same))
            | inr no_more ↦ omega (arith, more, no_more)
          ]
        ]

pub known_nowhere : (rules : Rules) (lines : List Line) (set : ℕ) → position (has_set set) lines ≡ None → rules.bound set ≡ known rules lines set
known_nowhere rules lines set none =
    let most : known rules lines set ≤ rules.bound set
    = known-least rules lines set (rules.bound set) (omega arith) (λ other within same.
    absurd (false≢true (sym (none_has set lines none other no_line within) ∙ eq-eqb (line_at lines other).set set same))) in
    omega (arith, most, known-static rules lines set)
