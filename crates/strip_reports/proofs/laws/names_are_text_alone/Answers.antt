use Rattle.strip_reports.proofs.Escapes.{entities, markup, seen}
use Rattle.strip_reports.proofs.laws.names_are_text_alone.Goals as goal

pub returns-clause-markup : goal.returns-clause-markup
returns-clause-markup c = markup

pub returns-clause-entities : goal.returns-clause-entities
returns-clause-entities c = entities

pub returns-clause-shown : goal.returns-clause-shown
returns-clause-shown c = seen
