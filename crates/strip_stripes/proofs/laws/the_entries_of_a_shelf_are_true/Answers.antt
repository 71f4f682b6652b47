use Rattle.strip_hand.specs.Search.{search_rules}
use Rattle.strip_book.specs.Pass.{known_lines}
use Rattle.strip_stripes.proofs.Entries.{true_entries}
use Rattle.strip_stripes.proofs.laws.the_entries_of_a_shelf_are_true.Goals as goal

pub returns : goal.returns
returns c = λ table copy buckets shelf.
    let film = shelf.copy_of.film in
    let bounds = c.the_rules_are_true.ensures.bounds table.search.kind table.search.film film in
    let begin = c.the_rules_are_true.ensures.begin table.search.kind table.search.film film in
    true_entries table (known_lines copy) buckets
    (c.a_justified_list_is_true.ensures.lines (search_rules table.search) (known_lines copy) film bounds begin shelf.copy_of.justified) shelf.entries
