use Rattle.std.proofs.Common.{◌≡◌, ◌++◌, length, All, flat_map}
use Rattle.strip_words.specs.Words.{spelling, BelongsTo}
use Rattle.strip_words.specs.Shown.{texts, items_data, command_data}
use Rattle.strip_words.proofs.reader.read_items.Given as goal

abbrev pub invariant-loop-later : goal.invariant-loop-later
invariant-loop-later l = record {
  spelled : texts l.words ≡ flat_map spelling (items_data l.items.items) ++ texts l.later;
  belong : All (BelongsTo (command_data l.command)) (items_data l.items.items);
}

abbrev pub decreases-loop-later : goal.decreases-loop-later
decreases-loop-later l = length l.later
