use Rattle.std.proofs.Common.{false, refl}
use Rattle.strip_model.specs.declared.pair.Pair.{Pair}
use Rattle.strip_model.proofs.Fits.{never_both, not_fit-take}
use Rattle.strip_model.proofs.fitting.fit.Goals as goal

abbrev none : Pair
none = record { first = 0; then = 0 }

pub returns-then-not-fits_behind : goal.returns-then-not-fits_behind
returns-then-not-fits_behind c = (
  λ yes. absurd (never_both false yes refl),
  λ fit. absurd (not_fit-take c.args.scenes c.loop-pair.pair-index c.args.pairs.now none c.loop-pair-test.true
      (λ more. never_both c.fits_behind.result ((c.fits_behind.ensures.fits _ c.loop-pair.invariant.knows c.loop-pair.invariant.fit).1 more) c.if-not-fits_behind.true) fit),
)
