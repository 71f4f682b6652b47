-- Lines that grow.
use Rattle.std.proofs.Common.{◌≡◌, ℕ, List, sym, ◌∙◌, subst, arith}
use Rattle.strip_film.specs.declared.shared.Line.{Line}
use Rattle.strip_lines.specs.Lines.{GrowTo}
use Rattle.strip_lines.proofs.Grown.{grow_self}
use Rattle.strip_front.specs.Filled.{HasLine}

-- by an equation
pub grow_same : (lines more : List Line) → more ≡ lines → GrowTo lines more
grow_same lines more same = subst (GrowTo lines) (sym same) (grow_self lines)

pub line_grows : (lines more : List Line) (line set : ℕ) → GrowTo lines more → HasLine lines line set → HasLine more line set
line_grows lines more line set grow has = record { there = omega (arith, has.there, grow.count); leaves = grow.same_set line has.there ∙ has.leaves }
