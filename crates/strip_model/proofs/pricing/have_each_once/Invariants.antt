use Rattle.std.proofs.Common.{◌≡◌, ℕ, ◌<◌, ◌==◌, count_by}
use Rattle.strip_model.proofs.pricing.have_each_once.Given as goal

abbrev pub invariant-loop-scene : goal.invariant-loop-scene
invariant-loop-scene l = (x : ℕ) → x < l.scene → count_by (λ y. y == x) l.order ≡ 1
