use Rattle.strip_crew.proofs.answering.answer_beside.Goals as goal

pub returns : goal.returns
returns g c = c.take_values.ensures _ _ c.find_values.ensures
