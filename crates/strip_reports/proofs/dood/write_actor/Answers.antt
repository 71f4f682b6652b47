use Rattle.std.proofs.Common.{◌≡◌, [], ◌++◌, map, sym, ap, ◌∙◌}
use Rattle.std.specs.Fmt.{decimal}
use Rattle.std.specs.String.{string_bytes}
use Rattle.std.proofs.lemmas.Result.{on_ok_weaker}
use Rattle.strip_text.specs.Rows.{csv_row}
use Rattle.strip_text.proofs.Named.{value_at}
use Rattle.strip_model.specs.Data.{ActorData}
use Rattle.strip_model.specs.Instance.{actor_data}
use Rattle.strip_model.proofs.Scenes.{rate_at}
use Rattle.strip_reports.specs.Codes.{code_word}
use Rattle.strip_reports.specs.Text.{actor_fields, row_of}
use Rattle.strip_reports.proofs.dood.write_actor.Goals as goal

pub returns : goal.returns
returns c =
    let inst = c.args.inst.now in
    let crews = c.args.crews.now in
    let actors = c.actors.result.now in
    let known = c.index-actors-actor.result in
    let name = c.as_bytes.ensures.value ∙ ap (λ actor. string_bytes actor.name) c.index-actors-actor.is
    ∙ sym (value_at actor_data (λ (actor : ActorData). actor.name) actors inst.actors c.args.actor known [] c.actors.ensures.actors c.requires.actor) in
    let rate = c.as_bytes-2.ensures.value ∙ c.in_ok-rate.ensures.ok ∙ ap decimal (ap (λ actor. actor.rate) c.index-actors-actor.is
    ∙ sym (rate_at actors inst.actors c.args.actor known c.actors.ensures.actors c.requires.actor)) in
    let days = ap (map code_word) c.deref.ensures.value ∙ c.in_ok-days.ensures in
    let fields : row_of c.as_bytes.result.now c.as_bytes-2.result.now (map code_word c.deref.result.now) c.sums_of-sums.result ≡ actor_fields inst crews c.args.actor
    = λ i. row_of (name i) (rate i) (days i) (c.sums_of-sums.ensures.sums i) in
    on_ok_weaker c.write_row.result (λ is. is ∙ ap (λ row. c.args.text.now ++ csv_row row) fields) c.write_row.ensures
