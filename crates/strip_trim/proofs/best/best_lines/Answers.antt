use Rattle.std.proofs.Common.{rules}
use Rattle.std.proofs.lemmas.Fn.{always_returns_same, dedup_same}
use Rattle.strip_trim.proofs.First.{best_from, same_set}
use Rattle.strip_trim.proofs.best.best_lines.Goals as goal

pub returns : goal.returns
returns c =
    best_from _ c.in_ok-entries.entries.items c.sort_unstable_by_key.new.self.items c.dedup_by_key.new.self.items
    c.in_ok-entries.ensures
    c.sort_unstable_by_key.ensures.permutation
    (c.sort_unstable_by_key.ensures.sorted (λ x. (x.set, record { 0 = x.bound }, x.line)) (always_returns_same _ _ _ (λ a r f' k. search rules)))
    (dedup_same _ same_set _ (λ x y b f' x' y' k. search rules) _ _ c.dedup_by_key.ensures.filtered)
