use Rattle.std.proofs.Common.{◌≡◌, ◌++◌, ℕ, true, false}
use Rattle.std.specs.List.{list_any}
use Rattle.strip_mask.specs.Set.{has, members}
use Rattle.strip_mask.specs.Iter.{rest_of}
use Rattle.strip_film.specs.Shoot.{on_location, ready}
use Rattle.strip_rule.specs.Rule.{rules_out}
use Rattle.strip_rule.proofs.rule.is_ruled_out_by.Given as goal

-- none so far rules the scene out; these and those to come are the set
abbrev pub invariant-loop-first : goal.invariant-loop-first
invariant-loop-first l = record {
  none : (set : ℕ) → l.fn.on.0 ≡ on_location l.film set → has (ready l.film set) l.fn.s ≡ true
      → ((first : ℕ) → has l.fn.firsts.0 first ≡ true → has (ready l.film set) first ≡ true)
      → list_any (λ first. rules_out l.film set first l.fn.s) l.yielded ≡ false;
  turns : l.yielded ++ rest_of l.first-iterator ≡ members l.fn.firsts.0;
}
