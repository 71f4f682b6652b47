use Rattle.strip_world.proofs.Opened.{sound_opened}
use Rattle.strip_world.proofs.Steps.{sound_after}
use Rattle.strip_world.proofs.laws.steps_keep_worlds_sound.Goals as goal

pub returns-clause-opened : goal.returns-clause-opened
returns-clause-opened c = sound_opened

pub returns-clause-steps : goal.returns-clause-steps
returns-clause-steps c = sound_after
