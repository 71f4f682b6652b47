-- A hand that drops its notes.
use Rattle.std.specs.Prelude.{Option}
use Rattle.strip_film.specs.declared.shared.Known.{Known}
use Rattle.strip_hand.specs.Hand.{HandData}
use Rattle.strip_world.specs.Hand.{hand_data}
use Rattle.strip_world.specs.World.{WorldData}

-- the hand of the world's worker 0, with this as its last note
abbrev pub noting : WorldData → Option Known → HandData
noting world note = record (hand_data world) { note = note }
