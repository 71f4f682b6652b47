use Rattle.strip_rule.proofs.Open.{open_is, is_open, free_of, of_free}
use Rattle.strip_rule.proofs.laws.open_firsts_are_by_scenes.Goals as goal

pub returns : goal.returns
returns c = λ film set scene is. (
  λ member. (let parts = open_is film set scene member in (parts.0, free_of film set scene is parts.1)),
  λ both. is_open film set scene is both.0 (of_free film set scene (λ first there. both.1 first)),
)
