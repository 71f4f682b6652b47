use Rattle.std.proofs.Common.{ap, arith}
use Rattle.strip_steal.specs.declared.share.Share.{Share}
use Rattle.strip_steal.proofs.Rules.{counts, merges}
use Rattle.strip_steal.proofs.queues.join_at.Goals as goal

pub absorb-requires-clause-rule : goal.absorb-requires-clause-rule
absorb-requires-clause-rule c = merges _ _ _ _ c.requires.weight c.requires.other

pub len_as-requires : goal.len_as-requires
len_as-requires c = counts _ _ (omega (arith, ap (λ (s : Share). s.weight) c.absorb.ensures.rule, c.requires.weight))
