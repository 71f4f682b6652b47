use Rattle.std.proofs.Common.{rules}
use Rattle.stripboard_cases.proofs.differing.difference.Goals as goal

pub returns : goal.returns
returns c = record {
  met = λ _. record {
    ended = search rules;
    text = c.other_text.ensures c.in_default.is;
    rows = search rules;
    numbers = search rules;
  };
}
