-- How contracts see the codes of the code.
use Rattle.std.specs.Prelude.{[], codes}
use Rattle.strip_text.specs.Field.{Field}
use Rattle.strip_reports.specs.declared.days.Code.{Code}
use Rattle.strip_reports.specs.declared.days.Code.TheVariants.{Away, Only, First, Last, Work, Hold}

-- the word that the report has for it
abbrev pub code_word : Code → Field
code_word Away = []
code_word Only = codes "SWF"
code_word First = codes "SW"
code_word Last = codes "WF"
code_word Work = codes "W"
code_word Hold = codes "H"
