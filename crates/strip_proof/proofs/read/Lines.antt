-- Line rows, read one after the other.
use Rattle.std.proofs.Common.{◌≡◌, ◌≤◌, ◌<◌, ◌+◌, ◌⊎◌, ℕ, true, List, [], ◌∷◌, ◌++◌, length, map, take, drop, get_or, None, Some, refl, sym, ap, ◌∙◌, subst, arith, nat_le}
use Rattle.std.proofs.lemmas.Bool.{lt-leb, le-leb}
use Rattle.std.proofs.lemmas.List.{drop-drop, get_or-drop, length-append, length-drop, length-map, length-take, map-append, take_all, take_more}
use Rattle.strip_film.specs.declared.shared.Line.{Line}
use Rattle.strip_text.specs.Rows.{Row, row_of}
use Rattle.strip_text.specs.Checks.{below, check, checks_of_one, first_fault}
use Rattle.strip_text.proofs.Making.{below-more, fails, first_fault-append, makes-at, makes-front, passes}
use Rattle.strip_proof.specs.declared.fault.PlanFault.{PlanFault}
use Rattle.strip_proof.specs.declared.fault.PlanFault.TheVariants.{BadRow, Memory, Missing}
use Rattle.strip_proof.specs.Faults.{Checks, due, has_row, line_checks, line_due, lines_checks}
use Rattle.strip_proof.specs.Text.{line_of}

-- the fault that some checks give, or want of memory
abbrev pub Tells : PlanFault → Checks → Type 0
Tells fault checks = (fault ≡ Memory) ⊎ (first_fault checks ≡ Some fault)

-- so many line rows were read of these: they hold, and these lines are theirs
pub record AreRead (first : ℕ) (rows : List Row) (count : ℕ) (lines : List Line) : Type 0 where
  pub counted : length lines ≡ count
  pub pass : first_fault (below count (line_due first rows)) ≡ None
  pub made : lines ≡ map line_of (take count rows)

-- at first none was read
pub none_read : (first : ℕ) (rows : List Row) {lines : List Line} → lines ≡ [] → AreRead first rows 0 lines
none_read first rows none = record { counted = ap length none; pass = refl; made = none }

-- the rows that are left begin with this one
pub here-length : (rows : List Row) (count : ℕ) (row : Row) (left : List Row) → drop count rows ≡ row ∷ left → count < length rows
here-length rows count row left here = omega (arith, ap length here, length-drop count rows)

here-checks : (first : ℕ) (rows : List Row) (count : ℕ) (row : Row) (left : List Row) → drop count rows ≡ row ∷ left
    → line_due first rows count ≡ check true (Missing (first + count)) ∷ line_checks count (first + count) row
here-checks first rows count row left here = ap (λ (list : List Row). due (first + count) (line_checks count) list) here

take-here : (rows : List Row) (count : ℕ) (row : Row) (left : List Row) → drop count rows ≡ row ∷ left → take (count + 1) rows ≡ take count rows ++ row ∷ []
take-here rows count row left here =
    let place : count ≡ count + 0 = omega arith in
    let row_at : get_or rows count [] ≡ row
    = ap (λ (k : ℕ). get_or rows k []) place ∙ sym (get_or-drop count rows 0 []) ∙ ap (λ (list : List Row). get_or list 0 []) here in
    take_more rows count [] (here-length rows count row left here) ∙ ap (λ (r : Row). take count rows ++ r ∷ []) row_at

pub behind : (rows : List Row) (count : ℕ) (row : Row) (left : List Row) → drop count rows ≡ row ∷ left → drop (count + 1) rows ≡ left
behind rows count row left here = sym (drop-drop 1 count rows) ∙ ap (λ (list : List Row). drop 1 list) here

-- no row is left
pub none-length : (rows : List Row) (count : ℕ) → drop count rows ≡ [] → length rows ≤ count
none-length rows count none = omega (arith, ap length none, length-drop count rows)

-- the checks of the next row, by the number of lines before it
its-checks : (first count number : ℕ) (lines : List Line) (row : Row) → length lines ≡ count → number ≡ first + count
    → line_checks (length lines) number row ≡ line_checks count (first + count) row
its-checks first count number lines row counted is = λ i. line_checks (counted i) (is i) row

-- one more row is read
pub one_more_read : (first : ℕ) (rows : List Row) (count number : ℕ) (row : Row) (left : List Row) (lines more : List Line) → drop count rows ≡ row ∷ left
    → number ≡ first + count → AreRead first rows count lines → first_fault (line_checks (length lines) number row) ≡ None → more ≡ lines ++ line_of row ∷ []
    → AreRead first rows (count + 1) more
one_more_read first rows count number row left lines more here is read holds pushed = record {
  counted = omega (arith, ap length pushed, length-append lines (line_of row ∷ []), read.counted);
  pass = below-more count (line_due first rows) read.pass
      (ap first_fault (here-checks first rows count row left here ∙ ap (λ (checks : Checks). check true (Missing (first + count)) ∷ checks) (sym (its-checks first count number lines row read.counted is)))
      ∙ holds);
  made = pushed ∙ ap (λ (list : List Line). list ++ line_of row ∷ []) read.made ∙ sym (map-append line_of (take count rows) (row ∷ []))
      ∙ ap (map line_of) (sym (take-here rows count row left here));
}

-- a fault of the next row, of which so many are due
next-fault : (first : ℕ) (rows : List Row) (count all : ℕ) (lines : List Line) (fault : PlanFault)
    → AreRead first rows count lines → count < all → Tells fault (line_due first rows count) → Tells fault (lines_checks first all rows)
next-fault first rows count all lines fault read within tells =
    makes-front (below all (line_due first rows)) (checks_of_one (nat_le (length rows) all) (BadRow (first + all))) fault
    (makes-at count all (line_due first rows) fault within read.pass tells)

-- one that is there
pub row-fault : (first : ℕ) (rows : List Row) (count all number : ℕ) (row : Row) (left : List Row) (lines : List Line) (fault : PlanFault) → drop count rows ≡ row ∷ left
    → number ≡ first + count → AreRead first rows count lines → count < all → Tells fault (line_checks (length lines) number row) → Tells fault (lines_checks first all rows)
row-fault first rows count all number row left lines fault here is read within tells =
    next-fault first rows count all lines fault read within
    (subst (Tells fault) (sym (here-checks first rows count row left here))
    (subst (Tells fault) (its-checks first count number lines row read.counted is) tells))

-- one that is not
pub due-fault : (first : ℕ) (rows : List Row) (count all : ℕ) (left : List Row) (lines : List Line) (fault : PlanFault) → left ≡ drop count rows
    → AreRead first rows count lines → count < all → Tells fault (checks_of_one (has_row left) (Missing (first + count))) → Tells fault (lines_checks first all rows)
due-fault first rows count all left lines fault is read within tells =
    next-fault first rows count all lines fault read within
    (makes-front (checks_of_one (has_row (drop count rows)) (Missing (first + count))) (line_checks count (first + count) (row_of (drop count rows) 0)) fault
    (subst (λ (list : List Row). Tells fault (checks_of_one (has_row list) (Missing (first + count)))) is tells))

-- a row is there where none is due
pub surplus-fault : (first : ℕ) (rows : List Row) (count all : ℕ) (row : Row) (left : List Row) (lines : List Line) → drop count rows ≡ row ∷ left
    → all ≡ count → AreRead first rows count lines → first_fault (lines_checks first all rows) ≡ Some (BadRow (first + all))
surplus-fault first rows count all row left lines here is read =
    first_fault-append (below all (line_due first rows)) _ (subst (λ (n : ℕ). first_fault (below n (line_due first rows)) ≡ None) (sym is) read.pass)
    ∙ fails (nat_le (length rows) all) (BadRow (first + all)) [] (lt-leb (length rows) all (omega (arith, here-length rows count row left here)))

-- no row is left, and none is due
pub no-fault : (first : ℕ) (rows : List Row) (count all : ℕ) (lines : List Line) → drop count rows ≡ []
    → all ≡ count → AreRead first rows count lines → first_fault (lines_checks first all rows) ≡ None
no-fault first rows count all lines none is read =
    first_fault-append (below all (line_due first rows)) _ (subst (λ (n : ℕ). first_fault (below n (line_due first rows)) ≡ None) (sym is) read.pass)
    ∙ passes (nat_le (length rows) all) (BadRow (first + all)) [] None (le-leb (length rows) all (omega (arith, none-length rows count none))) refl

pub all_made : (first : ℕ) (rows : List Row) (count : ℕ) (lines : List Line) → drop count rows ≡ []
    → AreRead first rows count lines → lines ≡ map line_of rows
all_made first rows count lines none read = read.made ∙ ap (map line_of) (take_all count rows (none-length rows count none))

-- where all rows are due, so many were read when none is left
pub all_counted : (first : ℕ) (rows : List Row) (count : ℕ) (lines : List Line) → drop count rows ≡ [] → AreRead first rows count lines → length rows ≡ count
all_counted first rows count lines none read =
    omega (
      arith,
      none-length rows count none,
      read.counted,
      ap length read.made,
      length-map (take count rows) line_of,
      length-take count rows,
    )
