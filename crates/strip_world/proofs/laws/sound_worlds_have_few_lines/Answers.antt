use Rattle.strip_world.proofs.True.{most_lines, most_of_set, room_for_more}
use Rattle.strip_world.proofs.laws.sound_worlds_have_few_lines.Goals as goal

pub returns-clause-most : goal.returns-clause-most
returns-clause-most c = most_lines

pub returns-clause-sets : goal.returns-clause-sets
returns-clause-sets c = λ world set sound. most_of_set world sound set

pub returns-clause-room : goal.returns-clause-room
returns-clause-room c = λ world who part path sound lt may. room_for_more world sound who part path lt may
