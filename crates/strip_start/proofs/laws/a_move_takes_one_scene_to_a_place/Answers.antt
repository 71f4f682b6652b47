use Rattle.strip_start.proofs.Places.{moved_back, moved_home, moved_others, moved_stands}
use Rattle.strip_start.proofs.laws.a_move_takes_one_scene_to_a_place.Goals as goal

pub returns-clause-stands : goal.returns-clause-stands
returns-clause-stands c = λ order from to taken put. moved_stands order from taken to put

pub returns-clause-others : goal.returns-clause-others
returns-clause-others c = λ order from to taken put. moved_others order from taken to put

pub returns-clause-back : goal.returns-clause-back
returns-clause-back c = λ order from to taken put. moved_home order from taken to put

pub returns-clause-nowhere : goal.returns-clause-nowhere
returns-clause-nowhere c = moved_back
