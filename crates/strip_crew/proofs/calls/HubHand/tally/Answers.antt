use Rattle.std.proofs.Common.{◌∙◌, ap, arith, sym}
use Rattle.strip_hand.specs.Search.{SearchData}
use Rattle.strip_crew.proofs.calls.HubHand.tally.Goals as goal

pub returns-clause-lines : goal.returns-clause-lines
returns-clause-lines g c = omega (arith, c.peek-lines.ensures, c.nodes-nodes.ensures)

pub returns-clause-nodes : goal.returns-clause-nodes
returns-clause-nodes g c = c.nodes-nodes.ensures ∙ ap (λ (s : SearchData). s.nodes) (sym c.requires.book_pass.search)
