-- Lists of lines that grow: what they make known, and that they stay justified.
use Rattle.std.proofs.Common.{◌≡◌, ℕ, zero, suc, ◌<◌, ◌≤◌, max, Bool, true, false, cond, eqb, List, [], ◌∷◌, ◌++◌, length, get_or, set, All, inl, inr, refl, sym, ap, ◌∙◌, subst, arith}
use Rattle.std.proofs.lemmas.Bool.{cases_eq, cases_lt, eq-eqb}
use Rattle.std.proofs.lemmas.Bool.Decides.{eqb_tells}
use Rattle.std.proofs.lemmas.List.{length-append, length-set, get_or-set_same, get_or-set_other, get_or_append_left}
use Rattle.std.proofs.lemmas.List.Elements.{All-push, All-set}
use Rattle.strip_mask.specs.Set.{without}
use Rattle.strip_film.specs.declared.shared.Line.{Line}
use Rattle.strip_film.specs.Film.{LiesIn}
use Rattle.strip_film.specs.Rules.{Rules}
use Rattle.strip_lines.specs.Lines.{known, IsJustified, AreJustified, GrowTo, no_line, line_at, raised, with_raised}

-- ---- what is known is the greatest

-- a maximum that is taken on a test
pub at_most : (b : Bool) (x y most : ℕ) → (b ≡ true → x ≤ most) → y ≤ most → cond b (max x y) y ≤ most
at_most true x y most first second = (let one : x ≤ most = first refl in omega arith)
at_most false x y most first second = second

at_least : (b : Bool) (x y least : ℕ) → least ≤ y → least ≤ cond b (max x y) y
at_least true x y least le = omega arith
at_least false x y least le = le

first_at_least : (b : Bool) (x y : ℕ) → b ≡ true → x ≤ cond b (max x y) y
first_at_least true x y is = omega arith
first_at_least false x y is = absurd (let e : false ≡ true = is in cc)

pub known-static : (rules : Rules) (lines : List Line) (set : ℕ) → rules.bound set ≤ known rules lines set
known-static rules [] set = omega arith
known-static rules (line ∷ lines) set = at_least (eqb line.set set) line.bound (known rules lines set) (rules.bound set) (known-static rules lines set)

pub known-line : (rules : Rules) (lines : List Line) (place : ℕ) → place < length lines → (line_at lines place).bound ≤ known rules lines (line_at lines place).set
known-line rules [] place lt = absurd (omega (arith, lt))
known-line rules (line ∷ lines) zero lt = first_at_least (eqb line.set line.set) line.bound (known rules lines line.set) (eq-eqb line.set line.set refl)
known-line rules (line ∷ lines) (suc place) lt =
    let q : ℕ = (line_at lines place).set in
    at_least (eqb line.set q) line.bound (known rules lines q) (line_at lines place).bound (known-line rules lines place (omega (arith, lt)))

pub known-least : (rules : Rules) (lines : List Line) (q most : ℕ) → rules.bound q ≤ most
    → ((place : ℕ) → place < length lines → (line_at lines place).set ≡ q → (line_at lines place).bound ≤ most) → known rules lines q ≤ most
known-least rules [] q most static each = static
known-least rules (line ∷ lines) q most static each =
    at_most (eqb line.set q) line.bound (known rules lines q) most
    (λ test. elim (eqb_tells line.set q) [
      | inl same ↦ each 0 (omega arith) same.1
      | inr other ↦ absurd (let e : eqb line.set q ≡ false = other.0 in cc)
    ])
    (known-least rules lines q most static (λ place lt. each (suc place) (omega (arith, lt))))

-- ---- lines that grow

pub grow_self : (lines : List Line) → GrowTo lines lines
grow_self lines = record { count = omega arith; same_set = λ place lt. refl; no_lower = λ place lt. omega arith }

pub grow_trans : (lines more most : List Line) → GrowTo lines more → GrowTo more most → GrowTo lines most
grow_trans lines more most first second = record {
  count = omega (arith, first.count, second.count);
  same_set = λ place lt. second.same_set place (omega (arith, lt, first.count)) ∙ first.same_set place lt;
  no_lower = λ place lt. omega (arith, first.no_lower place lt, second.no_lower place (omega (arith, lt, first.count)));
}

pub known-grows : (rules : Rules) (lines more : List Line) (q : ℕ) → GrowTo lines more → known rules lines q ≤ known rules more q
known-grows rules lines more q grow = known-least rules lines q (known rules more q) (known-static rules more q)
    (λ place lt is. (let reach : (line_at more place).bound ≤ known rules more (line_at more place).set = known-line rules more place (omega (arith, lt, grow.count)) in
    let same : (line_at more place).set ≡ q = grow.same_set place lt ∙ is in
    let there : (line_at more place).bound ≤ known rules more q = subst (λ (s : ℕ). (line_at more place).bound ≤ known rules more s) same reach in
    omega (arith, there, grow.no_lower place lt)))

pub justified-grows : (rules : Rules) (lines more : List Line) (line : Line) → GrowTo lines more → IsJustified rules lines line → IsJustified rules more line
justified-grows rules lines more line grow (inl static) = inl static
justified-grows rules lines more line grow (inr (some, steps)) =
    inr (some, λ scene first. (let e = steps scene first in omega (arith, e, known-grows rules lines more (without line.set scene) grow)))

all_grown : (rules : Rules) (lines more some : List Line) → GrowTo lines more → All (λ line. LiesIn rules.film line.set × IsJustified rules lines line) some
    → All (λ line. LiesIn rules.film line.set × IsJustified rules more line) some
all_grown rules lines more some grow are place default lt =
    let here = are place default lt in (here.0, justified-grows rules lines more (get_or some place default) grow here.1)

-- ---- a line more

pub added-grows : (lines : List Line) (line : Line) → GrowTo lines (lines ++ line ∷ [])
added-grows lines line = record {
  count = omega (arith, length-append lines (line ∷ []));
  same_set = λ place lt. ap (λ (l : Line). l.set) (get_or_append_left lines (line ∷ []) no_line place lt);
  no_lower = λ place lt. (let same : (line_at (lines ++ line ∷ []) place).bound ≡ (line_at lines place).bound = ap (λ (l : Line). l.bound) (get_or_append_left lines (line ∷ []) no_line place lt) in omega (arith, same));
}

pub justified-added : (rules : Rules) (lines : List Line) (line : Line) → AreJustified rules lines → LiesIn rules.film line.set → line.bound ≤ rules.bound line.set
    → AreJustified rules (lines ++ line ∷ [])
justified-added rules lines line are lies static =
    All-push (λ l. LiesIn rules.film l.set × IsJustified rules (lines ++ line ∷ []) l) lines line
    (all_grown rules lines (lines ++ line ∷ []) lines (added-grows lines line) are) (lies, inl static)

-- ---- a line raised

pub raised-grows : (lines : List Line) (place bound : ℕ) → place < length lines → GrowTo lines (with_raised lines place bound)
raised-grows lines place bound lt = record {
  count = omega (arith, length-set lines place new);
  same_set = λ other within. elim (cases_eq other place) [
    | inl same ↦ (let here : line_at (with_raised lines place bound) other ≡ new = subst (λ (i : ℕ). line_at (with_raised lines place bound) i ≡ new) (sym same) (get_or-set_same lines place new no_line lt) in
        ap (λ (l : Line). l.set) here ∙ ap (λ (i : ℕ). (line_at lines i).set) (sym same))
    | inr apart ↦ ap (λ (l : Line). l.set) (get_or-set_other lines place other new no_line apart)
  ];
  no_lower = λ other within. elim (cases_eq other place) [
    | inl same ↦ (let here : line_at (with_raised lines place bound) other ≡ new = subst (λ (i : ℕ). line_at (with_raised lines place bound) i ≡ new) (sym same) (get_or-set_same lines place new no_line lt) in
        let height : (line_at (with_raised lines place bound) other).bound ≡ max (line_at lines place).bound bound = ap (λ (l : Line). l.bound) here in
        let old : (line_at lines other).bound ≡ (line_at lines place).bound = ap (λ (i : ℕ). (line_at lines i).bound) same in
        omega (arith, height, old))
    | inr apart ↦ (let still : (line_at (with_raised lines place bound) other).bound ≡ (line_at lines other).bound = ap (λ (l : Line). l.bound) (get_or-set_other lines place other new no_line apart) in omega (arith, still))
  ];
}
  where
    new : Line
    new = raised (line_at lines place) bound

-- the greater of two justified bounds is justified
greater_justified : (rules : Rules) (lines : List Line) (q x y : ℕ) → IsJustified rules lines (record { set = q; bound = x }) → IsJustified rules lines (record { set = q; bound = y })
    → IsJustified rules lines (record { set = q; bound = max x y })
greater_justified rules lines q x y first second = elim (cases_lt x y) [
  | inl less ↦ subst (λ (b : ℕ). IsJustified rules lines (record { set = q; bound = b })) (let e : y ≡ max x y = omega (arith, less) in e) second
  | inr more ↦ subst (λ (b : ℕ). IsJustified rules lines (record { set = q; bound = b })) (let e : x ≡ max x y = omega (arith, more) in e) first
]

pub justified-raised : (rules : Rules) (lines : List Line) (place bound : ℕ) → AreJustified rules lines → place < length lines
    → IsJustified rules lines (record { set = (line_at lines place).set; bound = bound }) → AreJustified rules (with_raised lines place bound)
justified-raised rules lines place bound are lt new =
    let grow = raised-grows lines place bound lt in
    let here = are place no_line lt in
    All-set (λ l. LiesIn rules.film l.set × IsJustified rules (with_raised lines place bound) l) lines place (raised (line_at lines place) bound) (
      here.0,
      justified-grows rules lines (with_raised lines place bound) (raised (line_at lines place) bound) grow
          (greater_justified rules lines (line_at lines place).set (line_at lines place).bound bound here.1 new),
    )
    (all_grown rules lines (with_raised lines place bound) lines grow are)
