-- What a list of lines makes known, by the rules of a search.
use Rattle.std.specs.Prelude.{◌≡◌, ◌≢◌, ℕ, ◌+◌, ◌<◌, ◌≤◌, ◌⊎◌, ◌==◌, max, true, if◌then◌else◌, List, [], ◌∷◌, length, slice_index_or, slice_set, All}
use Rattle.strip_mask.specs.Set.{has, without, members}
use Rattle.strip_model.specs.declared.kind.Kind.{Kind}
use Rattle.strip_model.specs.Film.{FilmData}
use Rattle.strip_film.specs.declared.shared.Line.{Line}
use Rattle.strip_film.specs.Film.{LiesIn}
use Rattle.strip_film.specs.Shoot.{step_cost}
use Rattle.strip_film.specs.Rules.{Rules}
use Rattle.strip_bound.specs.Bounds.{bound}
use Rattle.strip_bound.specs.Promise.{promised}
use Rattle.strip_rule.specs.Rule.{open_firsts}
pub use Rattle.strip_mask.specs.Least.{least_at as least_of}

-- the rules of a search by a film's static bounds of a kind and its open firsts; a path promises what it paid with
-- the bound of what remains
abbrev pub rules_of : Kind → FilmData → Rules
rules_of kind film = record {
  film = film;
  bound = bound kind film;
  firsts = open_firsts film;
  promise = λ paid set. promised kind (paid + bound kind film set);
}

-- the greatest of the static bound of a set and the bounds of the lines with this set
abbrev pub known : Rules → List Line → ℕ → ℕ
known rules [] set = rules.bound set
known rules (line ∷ lines) set = if line.set == set then max line.bound (known rules lines set) else known rules lines set

-- the least, over the scenes of a list, of a step and the static bound of what then remains; `none` where the list
-- is empty
abbrev pub least_step : Rules → ℕ → ℕ → List ℕ → ℕ
least_step rules set none [] = none
least_step rules set none (scene ∷ scenes) =
    least_of (λ s. step_cost rules.film set s + rules.bound (without set s)) scene scenes

-- the look-ahead of a set: the greater of its static bound and the least over its firsts
abbrev pub ahead : Rules → ℕ → ℕ
ahead rules set = max (rules.bound set) (least_step rules set (rules.bound set) (members (rules.firsts set)))

-- a line is justified by a list: its bound is the static one at most, or each first step and what is known of the
-- rest reach it
abbrev pub IsJustified : Rules → List Line → Line → Type 0
IsJustified rules lines line =
    (line.bound ≤ rules.bound line.set)
    ⊎ ((line.set ≢ 0) × ((scene : ℕ) → has (rules.firsts line.set) scene ≡ true
    → line.bound ≤ step_cost rules.film line.set scene + known rules lines (without line.set scene)))

-- each line of the list lies in the film and is justified by the list
abbrev pub AreJustified : Rules → List Line → Type 0
AreJustified rules lines = All (λ line. LiesIn rules.film line.set × IsJustified rules lines line) lines

-- the place of a list that has no line
abbrev pub no_line : Line
no_line = record { set = 0; bound = 0 }

abbrev pub line_at : List Line → ℕ → Line
line_at lines place = slice_index_or lines place no_line

-- each line of a list stands in the other at its place, with the same set and a bound that is no lower
pub record GrowTo (lines more : List Line) : Type 0 where
  pub count : length lines ≤ length more
  pub same_set : (place : ℕ) → place < length lines → (line_at more place).set ≡ (line_at lines place).set
  pub no_lower : (place : ℕ) → place < length lines → (line_at lines place).bound ≤ (line_at more place).bound

-- the line with the greater of its bound and this one
abbrev pub raised : Line → ℕ → Line
raised line bound = record { set = line.set; bound = max line.bound bound }

-- the lines, with the one at a place raised
abbrev pub with_raised : List Line → ℕ → ℕ → List Line
with_raised lines place bound = slice_set lines place (raised (line_at lines place) bound)
