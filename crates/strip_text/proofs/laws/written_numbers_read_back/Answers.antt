use Rattle.strip_text.proofs.Blanks.{trimmed-decimal}
use Rattle.strip_text.proofs.Numbers.{is_number-decimal, number_of-decimal}
use Rattle.strip_text.proofs.laws.written_numbers_read_back.Goals as goal

pub returns-clause-bare : goal.returns-clause-bare
returns-clause-bare c = trimmed-decimal

pub returns-clause-same : goal.returns-clause-same
returns-clause-same c = number_of-decimal

pub returns-clause-within : goal.returns-clause-within
returns-clause-within c = is_number-decimal
