use Rattle.strip_front.proofs.Layered.{layer_facts}
use Rattle.strip_front.proofs.laws.layers_are_open.Goals as goal

pub returns : goal.returns
returns c = λ kind film depth is k d within. (
  (layer_facts kind film is depth).is_open k d within,
  (layer_facts kind film is depth).long k d within,
)
