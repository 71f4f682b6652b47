use Rattle.std.proofs.Common.{◌≡◌, ◌≢◌, ◌<◌, ◌≤◌, ◌+◌, ◌∙◌, Some, [], ◌∷◌, ◌++◌, length, set, ap, sym, subst, arith}
use Rattle.std.proofs.lemmas.Bool.{ne_eqb}
use Rattle.std.proofs.lemmas.List.{get_or-map, length-map}
use Rattle.std.specs.Prelude.{nat_eq}
use Rattle.strip_film.specs.declared.shared.Line.{Line}
use Rattle.strip_film.specs.Path.{PathData}
use Rattle.strip_film.specs.Shown.{path_data}
use Rattle.strip_world.specs.contracts.world.World.{the_view}
use Rattle.strip_world.specs.Steps.{new_line}
use Rattle.strip_world.specs.World.{PartData, WorldData, no_part, part_at}
use Rattle.strip_world.specs.Shown.{part_data}
use Rattle.strip_world.proofs.Numbers.{number_le_lines}
use Rattle.strip_world.proofs.Shown.{part_written, passed_over}
use Rattle.strip_world.proofs.world.World.enlist_as.Goals as goal

pub enlist-requires : goal.enlist-requires
enlist-requires c =
    let pushed = c.self-2.view_is ∙ c.push_line.ensures in
    let parts = ap (λ (w : WorldData). w.parts) pushed in
    let lt = subst (λ (w : WorldData). c.args.task < length w.parts) (sym pushed) c.requires.task in
    let here : part_at (the_view c.self-2.inside) c.args.task ≡ part_data c.index_mut.result.now
    = get_or-map part_data c.self-2.inside.parts.items c.args.task c.index_mut.result.now no_part (omega (arith, lt, length-map c.self-2.inside.parts.items part_data))
    ∙ ap part_data (sym c.index_mut.ensures.value) in
    let same : c.index_mut.result.now.number ≡ (part_at c.args.self.now c.args.task).number
    = sym (ap (λ (d : PartData). d.number) here) ∙ ap (λ (w : WorldData). (part_at w c.args.task).number) pushed in
    let most : (part_at c.args.self.now c.args.task).number ≤ length c.args.self.now.lines = number_le_lines c.args.self.now c.args.task c.requires.sound c.requires.task in
    let nodes : c.args.self.now.search.nodes ≤ 16777216 = subst (λ (w : WorldData). w.search.nodes ≤ 16777216) c.self.view_is c.self.invariant.0 in
    omega (arith, same, most, nodes, c.requires.sound.few)

pub returns-clause-world : goal.returns-clause-world
returns-clause-world c =
    let world : WorldData = c.args.self.now in
    let path : PathData = path_data c.args.path.now in
    let pushed = c.self-2.view_is ∙ c.push_line.ensures in
    let lt = subst (λ (w : WorldData). c.args.task < length w.parts) (sym pushed) c.requires.task in
    let counted : PartData → PartData = λ d. record d { last = Some path; number = d.number + 1 } in
    let written = part_written c.self-2.inside.parts.items c.args.task c.index_mut.result.now c.enlist.new.self counted lt c.index_mut.ensures.value c.enlist.ensures in
    let enlist : WorldData → WorldData = λ w. record w { parts = set w.parts c.args.task (counted (part_at w c.args.task)) } in
    let room : length world.lines ≢ world.search.nodes
    = subst (λ (w : WorldData). length w.lines ≢ w.search.nodes) c.self.view_is (λ (e : length c.self.inside.lines.items ≡ c.self.inside.nodes). c.if-lines-self.false (omega (arith, c.len-lines.ensures, e))) in
    let line : record { set = c.rest.result.0; bound = c.args.bound } ≡ new_line world path = λ i. record { set = c.rest.ensures i; bound = c.requires.bound i } in
    let more : WorldData = enlist (record world { lines = world.lines ++ new_line world path ∷ [] }) in
    (λ i. record (the_view c.self-2.inside) { parts = written i })
    ∙ ap enlist pushed
    ∙ ap (λ (l : Line). enlist (record world { lines = world.lines ++ l ∷ [] })) line
    ∙ passed_over (nat_eq (length world.lines) world.search.nodes) world more (ne_eqb (length world.lines) world.search.nodes room)
