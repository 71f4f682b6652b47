use Rattle.std.proofs.Common.{◌≡◌, vec_len}
use Rattle.strip_memo.proofs.store.Store.new.Given as goal

-- as many drawers as turns
abbrev pub invariant-loop-turn : goal.invariant-loop-turn
invariant-loop-turn g l = vec_len l.drawers ≡ l._turn
