use Rattle.std.proofs.Common.{◌≡◌, ◌++◌, take}
use Rattle.std.specs.List.{filter_map}
use Rattle.strip_words.specs.Words.{operand_of}
use Rattle.strip_words.specs.Shown.{texts, strs, items_data}
use Rattle.strip_words.proofs.reader.Reading.operands.Given as goal

abbrev pub invariant-loop-word : goal.invariant-loop-word
invariant-loop-word l = strs l.operands.items ≡ filter_map operand_of (items_data l.self.items.items) ++ texts (take l.word-index l.word-items)
