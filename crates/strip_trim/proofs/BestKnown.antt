-- The greatest bound of the lines with a set.
use Rattle.std.proofs.Common.{◌≡◌, ℕ, ◌<◌, ◌≤◌, max, Bool, true, false, cond, eqb, List, [], ◌∷◌, length, ap, subst, arith}
use Rattle.strip_film.specs.declared.shared.Line.{Line}
use Rattle.strip_film.specs.Rules.{Rules}
use Rattle.strip_lines.specs.Lines.{known, line_at}
use Rattle.strip_lines.proofs.Grown.{known-line, known-least}
use Rattle.strip_trim.specs.declared.best.BestLine.{BestLine}
use Rattle.strip_trim.specs.Best.{IsBestLine, best_bound}

max_of : (b : Bool) (x y z static : ℕ) → z ≡ max static y → cond b (max x z) z ≡ max static (cond b (max x y) y)
max_of true x y z static is = omega (arith, is)
max_of false x y z static is = is

pub known_best : (rules : Rules) (lines : List Line) (set : ℕ) → known rules lines set ≡ max (rules.bound set) (best_bound lines set)
known_best rules [] set = omega arith
known_best rules (line ∷ lines) set = max_of (eqb line.set set) line.bound (best_bound lines set) (known rules lines set) (rules.bound set) (known_best rules lines set)

-- rules without static bounds
abbrev unbounded : Rules
unbounded = record { film = record { casts = []; days = []; rates = []; holds = []; pairs = [] }; bound = λ _. 0; firsts = λ _. 0; promise = λ _ _. 0 }

known_alone : (lines : List Line) (set : ℕ) → known unbounded lines set ≡ best_bound lines set
known_alone lines set = let e = known_best unbounded lines set in omega (arith, e)

-- a line with the set has at most this bound
pub bound_line : (lines : List Line) (place : ℕ) → place < length lines → (line_at lines place).bound ≤ best_bound lines (line_at lines place).set
bound_line lines place lt = omega (arith, known-line unbounded lines place lt, known_alone lines (line_at lines place).set)

-- and it is the least such number
pub bound_least : (lines : List Line) (set most : ℕ) → ((place : ℕ) → place < length lines → (line_at lines place).set ≡ set → (line_at lines place).bound ≤ most)
    → best_bound lines set ≤ most
bound_least lines set most each = let e = known-least unbounded lines set most (omega arith) each in omega (arith, e, known_alone lines set)

-- a best line has it
pub bound_best : (lines : List Line) (best : BestLine) → IsBestLine lines best → best.bound ≡ best_bound lines best.set
bound_best lines best is =
    let set : (line_at lines best.line).set ≡ best.set = ap (λ (l : Line). l.set) is.is in
    let bound : (line_at lines best.line).bound ≡ best.bound = ap (λ (l : Line). l.bound) is.is in
    let reach : (line_at lines best.line).bound ≤ best_bound lines best.set
    = subst (λ (q : ℕ). (line_at lines best.line).bound ≤ best_bound lines q) set (bound_line lines best.line is.within) in
    omega (arith, bound, reach, bound_least lines best.set best.bound is.greatest)

-- where no line has the set, it is 0
pub bound_none : (lines : List Line) (set : ℕ) → ((place : ℕ) → place < length lines → (line_at lines place).set ≡ set → ⊥) → 0 ≡ best_bound lines set
bound_none lines set none = omega (arith, bound_least lines set 0 (λ place lt is. absurd (none place lt is)))
