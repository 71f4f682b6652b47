use Rattle.strip_lines.proofs.Shares.{lines_few, lines_ways, lines_room}
use Rattle.strip_lines.proofs.laws.counted_lines_are_few.Goals as goal

pub returns-clause-most : goal.returns-clause-most
returns-clause-most c = λ rules cost depth tasks lines last number is are counted. lines_few rules cost depth tasks is are lines last number counted

pub returns-clause-sets : goal.returns-clause-sets
returns-clause-sets c = λ rules cost depth set tasks lines last number is are counted. lines_ways rules cost depth tasks is are lines last number counted set

pub returns-clause-room : goal.returns-clause-room
returns-clause-room c = λ rules cost depth part tasks lines last number next is are counted lt unfinished after lies candidate. lines_room rules cost depth tasks is are lines last number counted part next lt unfinished after lies candidate
