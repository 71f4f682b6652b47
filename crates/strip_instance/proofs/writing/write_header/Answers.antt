use Rattle.std.proofs.Common.{◌≡◌, ◌∷◌, ◌++◌, take, map, codes, arith, sym, ap, ◌∙◌}
use Rattle.std.specs.String.{string_bytes}
use Rattle.std.proofs.lemmas.List.{take_all}
use Rattle.std.proofs.lemmas.Result.{on_ok_weaker}
use Rattle.std.proofs.lemmas.Simd.{map-map}
use Rattle.strip_text.specs.Rows.{csv_row}
use Rattle.strip_model.specs.Instance.{actor_data}
use Rattle.strip_instance.specs.Canonical.{header_fields}
use Rattle.strip_instance.proofs.writing.write_header.Goals as goal

pub returns : goal.returns
returns c =
    let actors = c.args.actors.now in
    let all : take c.loop-actor.actor-index actors ≡ actors = take_all c.loop-actor.actor-index actors (omega arith) in
    let fields : map (λ field. field.now) c.deref.result.now ≡ header_fields (map actor_data actors)
    = ap (map (λ field. field.now)) c.deref.ensures.value ∙ c.loop-actor.invariant
    ∙ ap (λ list. codes "scene" ∷ codes "days" ∷ map (λ actor. string_bytes actor.name) list) all
    ∙ ap (λ names. codes "scene" ∷ codes "days" ∷ names) (sym (map-map (λ actor. actor.name) actor_data actors)) in
    on_ok_weaker c.push-3.result (λ is. is ∙ ap (λ row. c.args.text.now ++ csv_row row) fields) c.push-3.ensures
