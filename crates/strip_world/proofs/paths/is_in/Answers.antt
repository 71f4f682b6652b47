use Rattle.std.proofs.Common.{sym, ◌∙◌, arith}
use Rattle.std.proofs.lemmas.Bool.{le-ltb}
use Rattle.strip_mask.proofs.ByMembers.{has-past}
use Rattle.strip_world.proofs.paths.is_in.Goals as goal

pub returns-else-scene-lt64-clause-member : goal.returns-else-scene-lt64-clause-member
returns-else-scene-lt64-clause-member c =
    le-ltb c.args.scene 64 (omega arith) ∙ sym (has-past c.args.set.0 c.args.scene (omega arith) (omega arith))
