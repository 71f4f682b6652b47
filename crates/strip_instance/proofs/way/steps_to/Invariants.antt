use Rattle.strip_instance.proofs.Closer.{AreNear}
use Rattle.strip_instance.proofs.way.steps_to.Given as goal

abbrev pub invariant-loop-pass : goal.invariant-loop-pass
invariant-loop-pass l = AreNear l.pairs l.to l._pass l.steps
