use Rattle.std.proofs.Common.{ap, arith, length}
use Rattle.strip_world.specs.World.{WorldData}
use Rattle.strip_world.proofs.hand.WorldHand.tally.Goals as goal

pub returns-clause-lines : goal.returns-clause-lines
returns-clause-lines c =
    let lines = ap (λ (w : WorldData). length w.lines) c.self.view_is in
    let most = ap (λ (w : WorldData). w.search.nodes) c.self.view_is in
    omega (arith, c.len.ensures, lines, most, c.requires.sound.few)

pub returns-clause-nodes : goal.returns-clause-nodes
returns-clause-nodes c = ap (λ (w : WorldData). w.search.nodes) c.self.view_is

pub returns-clause-least : goal.returns-clause-least
returns-clause-least c = ap (λ (w : WorldData). w.least) c.self.view_is

pub returns-clause-all : goal.returns-clause-all
returns-clause-all c =
    let lines = ap (λ (w : WorldData). length w.lines) c.self.view_is in
    omega (arith, c.len.ensures, lines)
