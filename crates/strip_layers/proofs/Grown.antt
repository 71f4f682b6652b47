-- A search that has more lines than before.
use Rattle.std.proofs.Common.{◌≡◌, ℕ, List, [], ◌++◌, refl, sym, ap, ◌∙◌, subst, append_assoc, append-nil, arith}
use Rattle.std.proofs.lemmas.List.{get_or_append_left, length-append}
use Rattle.strip_film.specs.declared.shared.Line.{Line}
use Rattle.strip_film.specs.Rules.{Rules}
use Rattle.strip_lines.specs.Lines.{GrowTo, line_at, no_line}
use Rattle.strip_lines.proofs.Grown.{grow_self, grow_trans}
use Rattle.strip_layers.specs.Search.{Extends, HasLine, HasWhole, Rises, SearchData}

pub rises_self : (search : SearchData) → Rises search search
rises_self search = record {
  goal = refl;
  nodes = refl;
  grow = grow_self search.lines;
  cheaper = omega arith;
  spent = λ is. is;
}

pub rises_trans : (before now after : SearchData) → Rises before now → Rises now after → Rises before after
rises_trans before now after first second = record {
  goal = second.goal ∙ first.goal;
  nodes = second.nodes ∙ first.nodes;
  grow = grow_trans before.lines now.lines after.lines first.grow second.grow;
  cheaper = omega (arith, first.cheaper, second.cheaper);
  spent = λ is. second.spent (first.spent is);
}

pub extends_self : (search : SearchData) → Extends search search
extends_self search = record {
  best = refl;
  goal = refl;
  nodes = refl;
  more = [];
  lines = sym (append-nil search.lines);
  spent = λ is. is;
}

pub extends_trans : (before now after : SearchData) → Extends before now → Extends now after → Extends before after
extends_trans before now after first second = record {
  best = second.best ∙ first.best;
  goal = second.goal ∙ first.goal;
  nodes = second.nodes ∙ first.nodes;
  more = first.more ++ second.more;
  lines = second.lines ∙ ap (λ (lines : List Line). lines ++ second.more) first.lines ∙ append_assoc before.lines first.more second.more;
  spent = λ is. second.spent (first.spent is);
}

pub extends_grow : (before after : SearchData) → Extends before after → GrowTo before.lines after.lines
extends_grow before after extends = subst (GrowTo before.lines) (sym extends.lines) (record {
  count = omega (arith, length-append before.lines extends.more);
  same_set = λ place within. ap (λ (line : Line). line.set) (get_or_append_left before.lines extends.more no_line place within);
  no_lower = λ place within. (let same : (line_at (before.lines ++ extends.more) place).bound ≡ (line_at before.lines place).bound
      = ap (λ (line : Line). line.bound) (get_or_append_left before.lines extends.more no_line place within) in
      omega (arith, same));
})

pub extends_rises : (before after : SearchData) → Extends before after → Rises before after
extends_rises before after extends = record {
  goal = extends.goal;
  nodes = extends.nodes;
  grow = extends_grow before after extends;
  cheaper = (let same : after.best.paid ≡ before.best.paid = ap (λ p. p.paid) extends.best in omega (arith, same));
  spent = extends.spent;
}

pub line_stays : (lines more : List Line) (rest place : ℕ) → GrowTo lines more → HasLine lines rest place → HasLine more rest place
line_stays lines more rest place grow line = record {
  there = omega (arith, line.there, grow.count);
  set = grow.same_set place line.there ∙ line.set;
}

pub whole_stays : (rules : Rules) (before after : SearchData) → GrowTo before.lines after.lines → HasWhole rules before → HasWhole rules after
whole_stays rules before after grow whole = record {
  some = omega (arith, whole.some, grow.count);
  set = grow.same_set 0 whole.some ∙ whole.set;
  ahead = omega (arith, whole.ahead, grow.no_lower 0 whole.some);
}
