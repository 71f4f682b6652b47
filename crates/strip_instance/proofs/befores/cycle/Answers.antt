use Rattle.std.proofs.Common.{◌≡◌, ◌<◌, ℕ, List, [], ◌∷◌, false, All, length, map, sym, ap, ◌∙◌, subst}
use Rattle.std.proofs.lemmas.List.{length-map}
use Rattle.strip_model.specs.Data.{SceneData}
use Rattle.strip_model.specs.Instance.{scene_data}
use Rattle.strip_text.specs.Checks.{check}
use Rattle.strip_text.specs.Rows.{field_of}
use Rattle.strip_instance.specs.Fault.{Cycle}
use Rattle.strip_instance.specs.Shown.{names_of}
use Rattle.strip_instance.proofs.pairs.Fit.{cycle_is, way_known}
use Rattle.strip_instance.proofs.befores.cycle.Goals as goal

pub names_along-requires : goal.names_along-requires
names_along-requires c =
    let scenes = c.args.scenes.now in
    let names = names_of scenes in
    let count : length names ≡ length scenes = length-map (map scene_data scenes) (λ (scene : SceneData). scene.name) ∙ length-map scenes scene_data in
    let known : All (λ scene. scene < length names) c.in_ok-way.way.items
    = way_known (length names) c.args.pairs.now c.args.pair.then c.args.pair.first c.in_ok-way.way.items c.requires.fit.known c.in_ok-way.ensures.way in
    subst (λ (numbers : List ℕ). All (λ scene. scene < length scenes) numbers) (sym c.deref.ensures.value)
    (subst (λ n. All (λ scene. scene < n) c.in_ok-way.way.items) count known)

pub returns : goal.returns
returns c =
    let names = names_of c.args.scenes.now in
    let way = c.in_ok-way.way.items in
    cycle_is names c.args.pairs.now c.args.number c.args.pair way c.requires.fit c.requires.known c.requires.leads c.in_ok-way.ensures c.the_shortest_way_is_one.ensures
    ∙ ap (λ list. check false (Cycle c.args.number way list) ∷ []) (sym (c.in_ok-names.ensures ∙ ap (map (field_of names)) c.deref.ensures.value))
