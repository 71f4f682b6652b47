use Rattle.std.proofs.Common.{◌≡◌, ◌+◌, ◌-◌, ◌*◌, false}
use Rattle.strip_lines.specs.Lines.{line_at, rules_of}
use Rattle.strip_layers.specs.Search.{AreTrue, IsSearch, Rises}
use Rattle.strip_layers.specs.Shown.{search_data}
use Rattle.strip_layers.proofs.searching.rise.Given as goal

abbrev pub invariant-loop-alloc : goal.invariant-loop-alloc
invariant-loop-alloc g l = record {
  found : AreTrue g.A.Answers.kind g.A.Answers.film l.search.found.entries;
  search : IsSearch (rules_of g.A.Answers.kind g.A.Answers.film) (search_data l.search);
  rises : Rises (search_data l.fn.search) (search_data l.search);
  unspent : (search_data l.search).spent ≡ false;
}

-- each walk that is done brings the first line nearer to the best path, and no more than two are undone
abbrev pub decreases-loop-alloc : goal.decreases-loop-alloc
decreases-loop-alloc g l = 3 * ((search_data l.search).best.paid - (line_at (search_data l.search).lines 0).bound) + (2 - l.limits.halvings)
