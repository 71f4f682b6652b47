use Rattle.std.proofs.Common.{None, Some, length, sym, ap, ◌∙◌, refl, arith}
use Rattle.strip_reduce.specs.State.{State}
use Rattle.strip_reduce.specs.Draft.{draft_state}
use Rattle.strip_reduce.specs.Steps.{actors_joined, can_drop, can_join_actors, can_join_scenes, dropped, scenes_joined}
use Rattle.strip_reduce.proofs.Least.{least_told, least_two_told, no_two_told}
use Rattle.strip_reduce.proofs.Next.{found-actor, found-actors, found-scenes, next-actors_joined, next-dropped, next-none, next-scenes_joined}
use Rattle.strip_reduce.proofs.Drafts.{draft-actors_joined, draft-dropped, draft-same, draft-scenes_joined}
use Rattle.strip_reduce.proofs.draft.Draft.step.Goals as goal

pub drop_actor-requires-clause-known : goal.drop_actor-requires-clause-known
drop_actor-requires-clause-known c =
    let state : State = draft_state c.args.self.now in
    let actor = c.in-Some.actor in
    let found = found-actor state c.deref.result.now c.deref-2.result.now (Some actor) c.requires.state.film.hold_count c.deref.ensures.value c.deref-2.ensures.value c.in-Some.ensures in
    (least_told (length state.film.rates) (can_drop state.film) actor found).below

pub returns-in-Some-clause-went : goal.returns-in-Some-clause-went
returns-in-Some-clause-went c =
    let state : State = draft_state c.args.self.now in
    let actor = c.in-Some.actor in
    let found = found-actor state c.deref.result.now c.deref-2.result.now (Some actor) c.requires.state.film.hold_count c.deref.ensures.value c.deref-2.ensures.value c.in-Some.ensures in
    next-dropped state actor found ∙ ap Some (sym c.drop_actor.ensures.step)

pub returns-in-Some-clause-stays : goal.returns-in-Some-clause-stays
returns-in-Some-clause-stays c =
    let state : State = draft_state c.args.self.now in
    let actor = c.in-Some.actor in
    let found = found-actor state c.deref.result.now c.deref-2.result.now (Some actor) c.requires.state.film.hold_count c.deref.ensures.value c.deref-2.ensures.value c.in-Some.ensures in
    let least = least_told (length state.film.rates) (can_drop state.film) actor found in
    draft-same (draft_state c.drop_actor.new.self) (dropped state actor) c.drop_actor.new.self.compared (record { scenes = 0; actors = 0 }) c.drop_actor.ensures.step c.drop_actor.ensures.compared
    (draft-dropped state c.args.self.now.compared actor least.below c.requires)

pub join_scenes-requires-clause-places : goal.join_scenes-requires-clause-places
join_scenes-requires-clause-places c =
    let state : State = draft_state c.args.self.now in
    let a = c.in-Some-joinable_scenes.a in
    let b = c.in-Some-joinable_scenes.b in
    let found = found-scenes state c.deref-3.result.now c.deref-4.result.now (Some (a, b)) c.deref-3.ensures.value c.deref-4.ensures.value c.in-Some-joinable_scenes.ensures in
    (least_two_told (length state.film.casts) (can_join_scenes state.film) a b found).rise

pub join_scenes-requires-clause-known : goal.join_scenes-requires-clause-known
join_scenes-requires-clause-known c =
    let state : State = draft_state c.args.self.now in
    let a = c.in-Some-joinable_scenes.a in
    let b = c.in-Some-joinable_scenes.b in
    let found = found-scenes state c.deref-3.result.now c.deref-4.result.now (Some (a, b)) c.deref-3.ensures.value c.deref-4.ensures.value c.in-Some-joinable_scenes.ensures in
    (least_two_told (length state.film.casts) (can_join_scenes state.film) a b found).below

pub returns-in-Some-joinable_scenes-clause-went : goal.returns-in-Some-joinable_scenes-clause-went
returns-in-Some-joinable_scenes-clause-went c =
    let state : State = draft_state c.args.self.now in
    let stay = found-actor state c.deref.result.now c.deref-2.result.now None c.requires.state.film.hold_count c.deref.ensures.value c.deref-2.ensures.value c.in_default.ensures in
    let a = c.in-Some-joinable_scenes.a in
    let b = c.in-Some-joinable_scenes.b in
    let found = found-scenes state c.deref-3.result.now c.deref-4.result.now (Some (a, b)) c.deref-3.ensures.value c.deref-4.ensures.value c.in-Some-joinable_scenes.ensures in
    next-scenes_joined state a b stay found ∙ ap Some (sym c.in_ok-join_scenes.ensures.step)

pub returns-in-Some-joinable_scenes-clause-stays : goal.returns-in-Some-joinable_scenes-clause-stays
returns-in-Some-joinable_scenes-clause-stays c =
    let state : State = draft_state c.args.self.now in
    let a = c.in-Some-joinable_scenes.a in
    let b = c.in-Some-joinable_scenes.b in
    let found = found-scenes state c.deref-3.result.now c.deref-4.result.now (Some (a, b)) c.deref-3.ensures.value c.deref-4.ensures.value c.in-Some-joinable_scenes.ensures in
    let two = least_two_told (length state.film.casts) (can_join_scenes state.film) a b found in
    draft-same (draft_state c.join_scenes.new.self) (scenes_joined state a b) c.join_scenes.new.self.compared (record { scenes = a; actors = 0 }) c.in_ok-join_scenes.ensures.step c.in_ok-join_scenes.ensures.compared
    (draft-scenes_joined state c.args.self.now.compared a b two.rise two.below two.pass two.before c.requires)

pub join_actors-requires-clause-places : goal.join_actors-requires-clause-places
join_actors-requires-clause-places c =
    let state : State = draft_state c.args.self.now in
    let a = c.in-Some-joinable_actors.a in
    let b = c.in-Some-joinable_actors.b in
    let found = found-actors state c.deref-5.result.now c.len.result (Some (a, b)) c.deref-5.ensures.value (omega arith) c.in-Some-joinable_actors.ensures in
    (least_two_told (length state.film.rates) (can_join_actors state.film) a b found).rise

pub join_actors-requires-clause-known : goal.join_actors-requires-clause-known
join_actors-requires-clause-known c =
    let state : State = draft_state c.args.self.now in
    let a = c.in-Some-joinable_actors.a in
    let b = c.in-Some-joinable_actors.b in
    let found = found-actors state c.deref-5.result.now c.len.result (Some (a, b)) c.deref-5.ensures.value (omega arith) c.in-Some-joinable_actors.ensures in
    (least_two_told (length state.film.rates) (can_join_actors state.film) a b found).below

pub returns-in-Some-joinable_actors-clause-went : goal.returns-in-Some-joinable_actors-clause-went
returns-in-Some-joinable_actors-clause-went c =
    let state : State = draft_state c.args.self.now in
    let stay = found-actor state c.deref.result.now c.deref-2.result.now None c.requires.state.film.hold_count c.deref.ensures.value c.deref-2.ensures.value c.in_default.ensures in
    let apart = found-scenes state c.deref-3.result.now c.deref-4.result.now None c.deref-3.ensures.value c.deref-4.ensures.value c.in_default-joinable_scenes.ensures in
    let a = c.in-Some-joinable_actors.a in
    let b = c.in-Some-joinable_actors.b in
    let found = found-actors state c.deref-5.result.now c.len.result (Some (a, b)) c.deref-5.ensures.value (omega arith) c.in-Some-joinable_actors.ensures in
    next-actors_joined state a b stay apart found ∙ ap Some (sym c.join_actors.ensures.step)

pub returns-in-Some-joinable_actors-clause-stays : goal.returns-in-Some-joinable_actors-clause-stays
returns-in-Some-joinable_actors-clause-stays c =
    let state : State = draft_state c.args.self.now in
    let a = c.in-Some-joinable_actors.a in
    let b = c.in-Some-joinable_actors.b in
    let found = found-actors state c.deref-5.result.now c.len.result (Some (a, b)) c.deref-5.ensures.value (omega arith) c.in-Some-joinable_actors.ensures in
    let apart = found-scenes state c.deref-3.result.now c.deref-4.result.now None c.deref-3.ensures.value c.deref-4.ensures.value c.in_default-joinable_scenes.ensures in
    let two = least_two_told (length state.film.rates) (can_join_actors state.film) a b found in
    draft-same (draft_state c.join_actors.new.self) (actors_joined state a b) c.join_actors.new.self.compared (record { scenes = length state.film.casts; actors = a }) c.join_actors.ensures.step c.join_actors.ensures.compared
    (draft-actors_joined state c.args.self.now.compared a b two.rise two.below two.pass two.before
    (no_two_told (length state.film.casts) (can_join_scenes state.film) apart) c.requires)

pub returns-clause-went : goal.returns-clause-went
returns-clause-went c =
    let state : State = draft_state c.args.self.now in
    let stay = found-actor state c.deref.result.now c.deref-2.result.now None c.requires.state.film.hold_count c.deref.ensures.value c.deref-2.ensures.value c.in_default.ensures in
    let apart = found-scenes state c.deref-3.result.now c.deref-4.result.now None c.deref-3.ensures.value c.deref-4.ensures.value c.in_default-joinable_scenes.ensures in
    let differ = found-actors state c.deref-5.result.now c.len.result None c.deref-5.ensures.value (omega arith) c.in_default-joinable_actors.ensures in
    (next-none state stay apart differ, refl)
