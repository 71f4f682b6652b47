use Rattle.std.proofs.Common.{◌≡◌, take}
use Rattle.std.specs.List.{filter_map}
use Rattle.strip_words.specs.Words.{operand_of}
use Rattle.strip_words.specs.Shown.{strs, items_data}
use Rattle.strip_words.proofs.reader.operands_in.Given as goal

abbrev pub invariant-loop-item : goal.invariant-loop-item
invariant-loop-item l = strs l.operands.items ≡ filter_map operand_of (items_data (take l.item-index l.items))
