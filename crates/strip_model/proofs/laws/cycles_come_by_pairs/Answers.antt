use Rattle.strip_model.proofs.Leads.{no_cycle-push, cycle-push, cycle_more}
use Rattle.strip_model.proofs.laws.cycles_come_by_pairs.Goals as goal

pub returns : goal.returns
returns c = record { none = no_cycle-push; closed = cycle-push; stays = cycle_more }
