use Rattle.std.proofs.Common.{slice_index}
use Rattle.strip_sets.proofs.TwoPlaces.{rates_at, rates_fit}
use Rattle.strip_sets.proofs.lanes.step_savings.Goals as goal

pub overflow_mul-result : goal.overflow_mul-result
overflow_mul-result c = rates_fit c.low_bits-first.result c.low_bits-second.result c.args.first c.args.second c.at_starts.result (slice_index c.args.days)
    c.low_bits-first.ensures c.low_bits-second.ensures c.at_starts.ensures.lanes c.at_starts.ensures.each c.requires.fits

pub returns-clause-each : goal.returns-clause-each
returns-clause-each c = rates_at c.low_bits-first.result c.low_bits-second.result c.args.first c.args.second c.at_starts.result (slice_index c.args.days)
    c.low_bits-first.ensures c.low_bits-second.ensures c.at_starts.ensures.lanes c.at_starts.ensures.each c.requires.fits
