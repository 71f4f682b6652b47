use Rattle.std.proofs.Common.{◌≡◌, ◌++◌, ℕ, Contains, length, slice_index}
use Rattle.strip_mask.specs.Set.{members}
use Rattle.strip_mask.specs.Iter.{rest_of}
use Rattle.strip_film.specs.Rules.{rank}
use Rattle.strip_rule.specs.Rule.{open_firsts}
use Rattle.strip_lines.specs.Lines.{rules_of}
use Rattle.strip_front.proofs.shorter.turns_of.Given as goal

-- the scenes so far have their ranks; these and those to come are the open firsts
abbrev pub invariant-loop-first : goal.invariant-loop-first
invariant-loop-first g l = record {
  ranked : (scene : ℕ) → Contains l.yielded scene → slice_index l.ranks scene ≡ rank (rules_of g.B.Bounds.kind g.B.Bounds.film) l.rest.0 scene;
  long : length l.ranks ≡ 64;
  turns : l.yielded ++ rest_of l.first-iterator ≡ members (open_firsts g.B.Bounds.film l.rest.0);
}
