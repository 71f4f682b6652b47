use Rattle.std.proofs.Common.{◌≡◌, [], ◌∷◌, ◌+◌, ◌++◌, sym, ap, ◌∙◌}
use Rattle.std.specs.String.{string_bytes}
use Rattle.std.proofs.lemmas.Result.{on_ok_weaker}
use Rattle.strip_text.proofs.Named.{value_at}
use Rattle.strip_model.specs.Data.{ActorData}
use Rattle.strip_model.specs.Instance.{actor_data}
use Rattle.strip_model.proofs.Scenes.{hold_at, rate_at}
use Rattle.strip_reports.specs.Html.{Cells, Name, Number, row_text}
use Rattle.strip_reports.specs.Actors.{actor_cells}
use Rattle.strip_reports.proofs.actors.push_actor.Goals as goal

pub returns : goal.returns
returns c =
    let inst = c.args.inst.now in
    let actor = c.args.actor in
    let actors = c.actors.result.now in
    let known = c.index-actors-actor.result in
    let earned = c.args.earned in
    let name = c.as_bytes.ensures.value ∙ ap (λ actor. string_bytes actor.name) c.index-actors-actor.is
    ∙ sym (value_at actor_data (λ (actor : ActorData). actor.name) actors inst.actors actor known [] c.actors.ensures.actors c.requires.actor) in
    let rate = ap (λ actor. actor.rate) c.index-actors-actor.is ∙ sym (rate_at actors inst.actors actor known c.actors.ensures.actors c.requires.actor) in
    let hold = ap (λ actor. actor.hold) c.index-actors-actor.is ∙ sym (hold_at actors inst.actors actor known c.actors.ensures.actors c.requires.actor) in
    let is = c.requires.earned in
    let cells : Name c.as_bytes.result.now ∷ Number c.first_day.result ∷ Number c.last_day.result
    ∷ Number earned.worked ∷ Number known.rate ∷ Number earned.work_pay
    ∷ Number earned.held ∷ Number known.hold ∷ Number earned.hold_pay
    ∷ Number (earned.work_pay + earned.hold_pay) ∷ [] ≡ actor_cells inst c.args.crews.now actor
    = λ i. Name (name i) ∷ Number (c.first_day.ensures i) ∷ Number (c.last_day.ensures i)
    ∷ Number (is i).worked ∷ Number (rate i) ∷ Number (is i).work_pay
    ∷ Number (is i).held ∷ Number (hold i) ∷ Number (is i).hold_pay
    ∷ Number ((is i).work_pay + (is i).hold_pay) ∷ [] in
    on_ok_weaker c.push_row.result (λ made. made ∙ ap (λ (cells : Cells). c.args.page.now.items ++ row_text cells) cells) c.push_row.ensures
