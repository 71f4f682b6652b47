use Rattle.std.proofs.Common.{◌∙◌, slice_index, inl, inr, refl, sym, arith}
use Rattle.std.proofs.lemmas.List.{get_or_default}
use Rattle.strip_front.specs.Shown.{front_data}
use Rattle.strip_front.proofs.Asked.{leaves_there, none_leaves_it}
use Rattle.strip_front.proofs.FrontFacts.{front_facts}
use Rattle.strip_front.proofs.Raised.{one_number}
use Rattle.strip_front.proofs.up.number_of.Goals as goal

pub bounds-found-task : goal.bounds-found-task
bounds-found-task c = omega (arith, c.requires.count, (leaves_there c.args.rest.0 (front_data c.args.front.now).tasks c.in-Some.task (sym c.in-Some.ensures)).0)

pub index-requires : goal.index-requires
index-requires c =
    omega (arith, c.args.front.now.numbered, (leaves_there c.args.rest.0 (front_data c.args.front.now).paths c.in-Some-place_of.place (sym c.in-Some-place_of.ensures)).0)

pub returns-in-Some : goal.returns-in-Some
returns-in-Some c = λ kind film number is front_of has.
    let front = front_data c.args.front.now in
    let there = leaves_there c.args.rest.0 front.tasks c.in-Some.task (sym c.in-Some.ensures) in
    one_number kind film front (front_facts kind film front is front_of) c.args.found.now c.args.front.now.numbers.items
    c.args.rest.0 (slice_index c.args.found.now c.in-Some.task) number (inl (c.in-Some.task, there.0, there.1, refl)) has

pub returns-in-Some-place_of : goal.returns-in-Some-place_of
returns-in-Some-place_of c = λ kind film number is front_of has.
    let front = front_data c.args.front.now in
    let there = leaves_there c.args.rest.0 front.paths c.in-Some-place_of.place (sym c.in-Some-place_of.ensures) in
    (c.index.ensures ∙ get_or_default c.args.front.now.numbers.items c.in-Some-place_of.place c.index.result.now 0 (omega (arith, there.0, c.args.front.now.numbered)))
    ∙ one_number kind film front (front_facts kind film front is front_of) c.args.found.now c.args.front.now.numbers.items
    c.args.rest.0 (slice_index c.args.front.now.numbers.items c.in-Some-place_of.place) number (inr (c.in-Some-place_of.place, there.0, there.1, refl)) has

pub returns-in-None : goal.returns-in-None
returns-in-None c = λ kind film number is front_of has.
    let front = front_data c.args.front.now in
    elim has [
      | inl task ↦ absurd (none_leaves_it c.args.rest.0 front.tasks (sym c.in_default.ensures) task.0 task.1 task.2)
      | inr place ↦ absurd (none_leaves_it c.args.rest.0 front.paths (sym c.in-None.ensures) place.0 place.1 place.2)
    ]
