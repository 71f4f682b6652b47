use Rattle.strip_commands.proofs.Casts.{cast-has}
use Rattle.strip_commands.proofs.laws.casts_are_by_words.Goals as goal

pub returns : goal.returns
returns c = λ generator actors actor few. cast-has generator actors actor
