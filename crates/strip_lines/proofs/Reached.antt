-- What lines make known, one after the other.
use Rattle.std.proofs.Common.{◌≡◌, ◌≢◌, ℕ, ◌+◌, ◌<◌, max, Bool, true, false, cond, eqb, List, [], ◌∷◌, ◌++◌, length, take, inl, inr, Contains, refl, sym, ap, ◌∙◌, subst, arith}
use Rattle.std.proofs.lemmas.Bool.{eq-eqb, ne_eqb}
use Rattle.std.proofs.lemmas.List.{take_more}
use Rattle.std.proofs.lemmas.List.Elements.{Contains-append_cases}
use Rattle.strip_model.proofs.Lists.{contains_cases, contains_none}
use Rattle.strip_film.specs.declared.shared.Line.{Line}
use Rattle.strip_film.specs.Rules.{Rules}
use Rattle.strip_lines.specs.Lines.{known, line_at, no_line}

abbrev with_line : Bool → ℕ → ℕ → ℕ
with_line here bound before = cond here (max bound before) before

with_two : (first second : Bool) (x y before : ℕ)
    → with_line first x (with_line second y before) ≡ with_line second y (with_line first x before)
with_two true true x y before = omega arith
with_two true false x y before = refl
with_two false true x y before = refl
with_two false false x y before = refl

-- one line more
pub known-append : (rules : Rules) (lines : List Line) (line : Line) (set : ℕ)
    → known rules (lines ++ line ∷ []) set ≡ cond (eqb line.set set) (max line.bound (known rules lines set)) (known rules lines set)
known-append rules [] line set = refl
known-append rules (first ∷ lines) line set =
    ap (with_line (eqb first.set set) first.bound) (known-append rules lines line set)
    ∙ with_two (eqb first.set set) (eqb line.set set) first.bound line.bound (known rules lines set)

known_more : (rules : Rules) (lines : List Line) (i set : ℕ) → i < length lines
    → known rules (take (i + 1) lines) set
    ≡ with_line (eqb (line_at lines i).set set) (line_at lines i).bound (known rules (take i lines) set)
known_more rules lines i set within =
    ap (λ (xs : List Line). known rules xs set) (take_more lines i no_line within) ∙ known-append rules (take i lines) (line_at lines i) set

-- the greatest so far, after a line of the set and after another
pub known-with : (rules : Rules) (lines : List Line) (i set before after : ℕ) → i < length lines → (line_at lines i).set ≡ set
    → before ≡ known rules (take i lines) set → after ≡ max before (line_at lines i).bound → after ≡ known rules (take (i + 1) lines) set
known-with rules lines i set before after within same so_far greater =
    let more = known_more rules lines i set within in
    let here : eqb (line_at lines i).set set ≡ true = eq-eqb (line_at lines i).set set same in
    let both : known rules (take (i + 1) lines) set ≡ max (line_at lines i).bound (known rules (take i lines) set)
    = more ∙ ap (λ (b : Bool). with_line b (line_at lines i).bound (known rules (take i lines) set)) here in
    omega (arith, both, so_far, greater)

pub known-without : (rules : Rules) (lines : List Line) (i set before : ℕ) → i < length lines → (line_at lines i).set ≢ set
    → before ≡ known rules (take i lines) set → before ≡ known rules (take (i + 1) lines) set
known-without rules lines i set before within other so_far =
    so_far ∙ sym (known_more rules lines i set within
    ∙ ap (λ (b : Bool). with_line b (line_at lines i).bound (known rules (take i lines) set)) (ne_eqb (line_at lines i).set set other))

-- what holds of each number of a list and of one more holds of each of both
pub each_more : (P : ℕ → Type 0) (done : List ℕ) (x : ℕ) → ((i : ℕ) → Contains done i → P i) → P x
    → (i : ℕ) → Contains (done ++ x ∷ []) i → P i
each_more P done x each one i there = elim (Contains-append_cases done (x ∷ []) i there) [
  | inl before ↦ each i before
  | inr last ↦ elim (contains_cases x [] i last) [
    | inl same ↦ subst P same one
    | inr none ↦ absurd (contains_none i none)
  ]
]
