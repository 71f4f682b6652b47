use Rattle.strip_model.proofs.Knowing.{AreLedOn}
use Rattle.strip_model.proofs.befores.Befores.lead_on.Given as goal

abbrev pub invariant-loop-scenes : goal.invariant-loop-scenes
invariant-loop-scenes l = AreLedOn l.scenes-index l.pair.first l.later l.fn.self.leading l.scenes-items
