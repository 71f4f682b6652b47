use Rattle.std.proofs.Common.{length, refl}
use Rattle.strip_front.proofs.Layered.{layer_facts}
use Rattle.strip_front.proofs.laws.layers_pay_the_least.Goals as goal

pub returns : goal.returns
returns c = λ kind film path is is_open. (layer_facts kind film is (length path.scenes)).least path is_open refl
