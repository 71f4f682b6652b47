use Rattle.std.proofs.Common.{◌<◌, ◌+◌, ◌∙◌, Some, length, set, get_or, ap, refl, arith}
use Rattle.std.proofs.lemmas.Bool.{lt-ltb}
use Rattle.std.proofs.lemmas.List.{length-map}
use Rattle.std.specs.Prelude.{nat_lt}
use Rattle.strip_world.specs.contracts.world.World.{the_view}
use Rattle.strip_world.specs.Steps.{claimed}
use Rattle.strip_world.specs.World.{PartData, WorldData, no_part}
use Rattle.strip_world.specs.Shown.{part_data}
use Rattle.strip_world.proofs.Shown.{chosen, part_written}
use Rattle.strip_world.proofs.world.World.claim_as.Goals as goal

pub returns-clause-world : goal.returns-clause-world
returns-clause-world c =
    let world : WorldData = the_view c.self.inside in
    let given : PartData → PartData = λ d. record d { claimer = Some c.args.who } in
    let lt : world.next < length world.parts = omega (arith, c.if-task-len.false, c.len.ensures, length-map c.self.inside.parts.items part_data) in
    let written = part_written c.self.inside.parts.items world.next c.index_mut.result.now (record c.index_mut.result.now { claimer = Some c.args.who }) given lt c.index_mut.ensures.value refl in
    let next : WorldData = record world { next = world.next + 1; parts = set world.parts world.next (given (get_or world.parts world.next no_part)) } in
    (λ i. record world { next = world.next + 1; parts = written i })
    ∙ chosen (nat_lt world.next (length world.parts)) next world (lt-ltb world.next (length world.parts) lt)
    ∙ ap (λ (w : WorldData). claimed w c.args.who) c.self.view_is
