use Rattle.std.proofs.Common.{sym, ◌∙◌}
use Rattle.strip_instance.proofs.pairs.SaidPairs.{number-by_names}
use Rattle.strip_instance.proofs.names.scene_number.Goals as goal

pub returns-in_err-place : goal.returns-in_err-place
returns-in_err-place c = c.from_residual.ensures ∙ sym c.in_err-place.was ∙ c.place_of.ensures ∙ number-by_names c.args.scenes.now c.args.name.now

pub returns : goal.returns
returns c = sym c.in_ok-place.was ∙ c.place_of.ensures ∙ number-by_names c.args.scenes.now c.args.name.now
