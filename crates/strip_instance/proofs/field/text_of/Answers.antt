use Rattle.std.proofs.Common.{refl, inr}
use Rattle.std.proofs.lemmas.Str.{is_utf8-from_IsUtf8}
use Rattle.strip_text.proofs.Digits.{not_text}
use Rattle.strip_instance.proofs.field.text_of.Goals as goal

pub returns-in-Ok-clause-makes : goal.returns-in-Ok-clause-makes
returns-in-Ok-clause-makes c = rw (is_utf8-from_IsUtf8 c.args.field.now c.in-Ok.ensures.cases.1) refl

pub returns-in-Err-clause-makes : goal.returns-in-Err-clause-makes
returns-in-Err-clause-makes c = inr (rw (not_text c.args.field.now c.in-Err.ensures.cases.0) refl)
