use Rattle.strip_lines.proofs.Shares.{parts_most, parts_room}
use Rattle.strip_lines.proofs.laws.parts_add_up.Goals as goal

pub returns-clause-most : goal.returns-clause-most
returns-clause-most c = λ rules depth tasks last test is are. parts_most depth tasks are rules is last test

pub returns-clause-room : goal.returns-clause-room
returns-clause-room c = λ rules depth part tasks last next test is are lt unfinished after lies passes. parts_room depth tasks are rules is last test part next lt unfinished after lies passes
