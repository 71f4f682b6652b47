-- What stays known as the lines grow.
use Rattle.std.proofs.Common.{List, ◌∙◌, arith}
use Rattle.strip_film.specs.declared.shared.Known.{Known}
use Rattle.strip_film.specs.declared.shared.Line.{Line}
use Rattle.strip_lines.specs.Lines.{GrowTo}
use Rattle.strip_hand.specs.Hand.{Knows}

-- a known line stays known
pub knows_grow : (lines more : List Line) (known : Known) → GrowTo lines more → Knows lines known → Knows more known
knows_grow lines more known grow knows = record {
  there = omega (arith, grow.count, knows.there);
  set = grow.same_set known.line knows.there ∙ knows.set;
  as_great = omega (arith, grow.no_lower known.line knows.there, knows.as_great);
}
