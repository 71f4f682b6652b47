use Rattle.std.proofs.Common.{sym, ◌∙◌}
use Rattle.std.proofs.lemmas.Slice.Eq.{bytes_eq-Decides}
use Rattle.stripboard_cases.proofs.files.bytes_at_hand.Goals as goal

pub returns-then-eq : goal.returns-then-eq
returns-then-eq c = (
  c.held-item.result,
  (c.loop-held.held-index, c.loop-held-test.true, sym c.held-item.is),
  sym c.as_str.ensures.value ∙ (bytes_eq-Decides c.as_str.result.now c.as_str-in-loop-held.result.now).0 (sym c.eq.ensures ∙ c.if-eq.true) ∙ c.as_str-in-loop-held.ensures.value,
  sym c.deref.ensures.value,
)
