-- The rows of an instance spell it.
use Rattle.std.proofs.Common.{◌≡◌, ℕ, ◌<◌, ◌≤◌, Bool, true, false, not, eqb, List, [], ◌∷◌, ◌++◌, length, get_or, map, All, Some, None, refl, sym, ap, ◌∙◌, subst, arith, codes, if◌then◌else◌}
use Rattle.std.specs.Fmt.{decimal}
use Rattle.std.specs.List.{range_with_len}
use Rattle.std.proofs.lemmas.Bool.{eqb-true, or_parts}
use Rattle.std.proofs.lemmas.List.{ext_get_or, get_or-map, length-map}
use Rattle.std.proofs.lemmas.List.Elements.{All-append, All-cons, All-head, All-tail, All-map, All-weaker}
use Rattle.std.proofs.lemmas.List.FromFn.{get_or-map-range_with_len, length-map-range_with_len}
use Rattle.std.proofs.lemmas.Simd.{map-map}
use Rattle.std.proofs.lemmas.List.Folds.{map_fixed}
use Rattle.strip_model.specs.Pairs.{FitPairs}
use Rattle.strip_model.specs.Data.{SceneData, ActorData, InstanceData, IsInstance, IsScene, IsActor}
use Rattle.strip_text.specs.Field.{Field, trimmed}
use Rattle.strip_text.specs.Number.{number_of}
use Rattle.strip_text.specs.Rows.{Row, field_of}
use Rattle.strip_text.proofs.Blanks.{trimmed-decimal}
use Rattle.strip_text.proofs.Numbers.{number_of-decimal}
use Rattle.strip_instance.specs.Field.{is_name}
use Rattle.strip_instance.specs.Befores.{pairs_of}
use Rattle.strip_instance.specs.Parts.{Parts}
use Rattle.strip_instance.specs.Faults.{scene_names}
use Rattle.strip_instance.specs.Text.{actor_of, actors_of, holds_of, rates_of, scene_of, instance_of}
use Rattle.strip_instance.specs.Canonical.{header_fields, pay_fields, rate_fields, hold_fields, scene_fields, has_own_holds, body_rows, canonical_rows, mark_of, names_of, pair_fields}
use Rattle.strip_instance.proofs.back.TextNames.{IsTextName}
use Rattle.strip_instance.proofs.Marks.{cast_of_marks-mark_of, trimmed-mark_of}
use Rattle.strip_instance.proofs.back.ReadableNames.{pairs-map}
use Rattle.strip_instance.proofs.back.WrittenPairs.{pairs_of-written, trimmed-pairs}
use Rattle.strip_instance.proofs.back.HeldScenes.{IsSound, scene_rows-all}

-- what holds of each kind of row holds of all
pub all_kinds : (P : Row → Type 0) (own : Bool) (header rates hold : Row) (scenes : List Row) → P header → P rates → P hold → All P scenes
    → All P ((header ∷ rates ∷ (if own then hold ∷ [] else [])) ++ scenes)
all_kinds P true header rates hold scenes its_header its_rates its_hold rest =
    All-cons P header (rates ∷ hold ∷ scenes) its_header (All-cons P rates (hold ∷ scenes) its_rates (All-cons P hold scenes its_hold rest))
all_kinds P false header rates hold scenes its_header its_rates its_hold rest =
    All-cons P header (rates ∷ scenes) its_header (All-cons P rates scenes its_rates rest)

-- trimming changes no field of the header
trimmed-header_fields : (actors : List ActorData) → All (λ actor. IsTextName is_name actor.name) actors
    → map trimmed (header_fields actors) ≡ header_fields actors
trimmed-header_fields actors readable = ap (λ names. codes "scene" ∷ codes "days" ∷ names)
    (map_fixed trimmed (map (λ actor. actor.name) actors) (All-map (λ field. trimmed field ≡ field) (λ actor. actor.name) actors
    (All-weaker (λ actor. IsTextName is_name actor.name) (λ actor. trimmed actor.name ≡ actor.name) (λ actor name. name.readable.bare) actors readable)))

-- trimming changes no field of a row of rates
trimmed-pay_fields : (word : Field) (rate : ActorData → ℕ) (actors : List ActorData) → trimmed word ≡ word → All (λ actor. rate actor ≤ 1_000_000_000) actors
    → map trimmed (pay_fields word rate actors) ≡ pay_fields word rate actors
trimmed-pay_fields word rate actors bare limits =
    let rates = map (λ (actor : ActorData). decimal (rate actor)) actors in
    ap (λ first. first ∷ [] ∷ map trimmed rates) bare ∙ ap (λ list. word ∷ [] ∷ list)
    (map_fixed trimmed rates (All-map (λ field. trimmed field ≡ field) (λ actor. decimal (rate actor)) actors
    (All-weaker (λ actor. rate actor ≤ 1_000_000_000) (λ actor. trimmed (decimal (rate actor)) ≡ decimal (rate actor))
    (λ actor low. trimmed-decimal (rate actor) (omega (arith, low))) actors limits)))

-- trimming changes no field of a scene's row
trimmed-scene_fields : (actors : ℕ) (scene : SceneData) → IsSound actors scene → map trimmed (scene_fields actors scene) ≡ scene_fields actors scene
trimmed-scene_fields actors scene sound =
    let marks = map (mark_of scene.cast) (range_with_len 0 actors) in
    ap (λ name. name ∷ trimmed (decimal scene.days) ∷ map trimmed marks) sound.name.readable.bare
    ∙ ap (λ days. scene.name ∷ days ∷ map trimmed marks) (trimmed-decimal scene.days (omega (arith, sound.limits.days.1)))
    ∙ ap (λ list. scene.name ∷ decimal scene.days ∷ list) (map_fixed trimmed marks
    (All-map (λ field. trimmed field ≡ field) (mark_of scene.cast) (range_with_len 0 actors) (λ i d _. trimmed-mark_of scene.cast _)))

-- there are as many names as scenes
pub fit_names : (inst : InstanceData) → FitPairs (length inst.scenes) inst.pairs → FitPairs (length (names_of inst)) inst.pairs
fit_names inst fit = subst (λ n. FitPairs n inst.pairs) (sym (length-map inst.scenes (λ (scene : SceneData). scene.name))) fit

-- trimming changes no row
pub trimmed-rows : (inst : InstanceData) → IsInstance inst → All (λ actor. IsTextName is_name actor.name) inst.actors
    → All (IsSound (length inst.actors)) inst.scenes → map (map trimmed) (canonical_rows inst) ≡ canonical_rows inst
trimmed-rows inst limits names sound =
    let n = length inst.actors in
    let Stays = λ (row : Row). map trimmed row ≡ row in
    let scenes : All Stays (map (scene_fields n) inst.scenes)
    = All-map Stays (scene_fields n) inst.scenes (All-weaker (IsSound n) (λ scene. map trimmed (scene_fields n scene) ≡ scene_fields n scene)
    (λ scene is. trimmed-scene_fields n scene is) inst.scenes sound) in
    let bare : All (λ name. trimmed name ≡ name) (names_of inst)
    = All-map (λ name. trimmed name ≡ name) (λ (scene : SceneData). scene.name) inst.scenes
    (All-weaker (IsSound n) (λ scene. trimmed scene.name ≡ scene.name) (λ scene is. is.name.readable.bare) inst.scenes sound) in
    let pairs : All Stays (map (pair_fields (names_of inst)) inst.pairs)
    = trimmed-pairs (names_of inst) (pairs-map (λ (scene : SceneData). scene.name) inst.scenes limits.scene_names) inst.pairs bare (fit_names inst limits.pairs).known in
    map_fixed (map trimmed) (canonical_rows inst)
    (all_kinds Stays (has_own_holds inst.actors) (header_fields inst.actors) (rate_fields inst.actors) (hold_fields inst.actors) (body_rows inst)
    (trimmed-header_fields inst.actors names)
    (trimmed-pay_fields (codes "rate") (λ actor. actor.rate) inst.actors refl (All-weaker IsActor (λ actor. actor.rate ≤ 1_000_000_000) (λ actor is. is.rate) inst.actors limits.actors))
    (trimmed-pay_fields (codes "hold") (λ actor. actor.hold) inst.actors refl (All-weaker IsActor (λ actor. actor.hold ≤ 1_000_000_000) (λ actor is. is.hold) inst.actors limits.actors))
    (All-append Stays (map (scene_fields n) inst.scenes) (map (pair_fields (names_of inst)) inst.pairs) scenes pairs))

-- a scene's row says the scene
scene_of-scene_fields : (actors : ℕ) (scene : SceneData) → IsScene actors scene → scene_of (scene_fields actors scene) ≡ scene
scene_of-scene_fields actors scene limits =
    let days : number_of (decimal scene.days) ≡ scene.days = number_of-decimal scene.days (omega (arith, limits.days.1)) in
    let cast = cast_of_marks-mark_of actors scene.cast limits.cast in
    λ i. record { name = scene.name; days = days i; cast = cast i }

-- the rates that a row was written of
rates_of-pay_fields : (word : Field) (rate : ActorData → ℕ) (actors : List ActorData) → All (λ actor. rate actor ≤ 1_000_000_000) actors
    → rates_of (pay_fields word rate actors) ≡ map rate actors
rates_of-pay_fields word rate [] limits = refl
rates_of-pay_fields word rate (actor ∷ actors) limits =
    let low : rate actor ≤ 1_000_000_000 = All-head (λ other. rate other ≤ 1_000_000_000) actor actors limits in
    let first : number_of (decimal (rate actor)) ≡ rate actor = number_of-decimal (rate actor) (omega (arith, low)) in
    let rest = rates_of-pay_fields word rate actors (All-tail (λ other. rate other ≤ 1_000_000_000) actor actors limits) in
    λ i. first i ∷ rest i

-- without a row of their own the hold rates are the rates
same_holds : (actors : List ActorData) → has_own_holds actors ≡ false → map (λ actor. actor.rate) actors ≡ map (λ actor. actor.hold) actors
same_holds [] none = refl
same_holds (actor ∷ actors) none =
    let both = or_parts (not (eqb actor.hold actor.rate)) (has_own_holds actors) none in
    let first : actor.hold ≡ actor.rate = eqb-true actor.hold actor.rate (true_from_not (eqb actor.hold actor.rate) both.0) in
    let rest = same_holds actors both.1 in
    λ i. sym first i ∷ rest i
  where
    true_from_not : (b : Bool) → not b ≡ false → b ≡ true
    true_from_not true is = refl
    true_from_not false is = cc

holds_of-fields : (own : Bool) (actors : List ActorData) → has_own_holds actors ≡ own → All IsActor actors
    → holds_of (map (λ actor. actor.rate) actors) (if own then Some (hold_fields actors) else None) ≡ map (λ actor. actor.hold) actors
holds_of-fields true actors is limits =
    rates_of-pay_fields (codes "hold") (λ actor. actor.hold) actors (All-weaker IsActor (λ actor. actor.hold ≤ 1_000_000_000) (λ actor its. its.hold) actors limits)
holds_of-fields false actors is limits = same_holds actors is

-- actors by their names, rates and hold rates
no_actor : ActorData
no_actor = record { name = []; rate = 0; hold = 0 }

actors_of-parts : (actors : List ActorData)
    → actors_of (map (λ actor. actor.name) actors) (map (λ actor. actor.rate) actors) (map (λ actor. actor.hold) actors) ≡ actors
actors_of-parts actors =
    let names = map (λ (actor : ActorData). actor.name) actors in
    let rates = map (λ (actor : ActorData). actor.rate) actors in
    let holds = map (λ (actor : ActorData). actor.hold) actors in
    let count : length names ≡ length actors = length-map actors (λ (actor : ActorData). actor.name) in
    let made : length (actors_of names rates holds) ≡ length names = length-map-range_with_len (actor_of names rates holds) 0 (length names) in
    ext_get_or no_actor (actors_of names rates holds) actors (made ∙ count) (λ k within.
    let here : k < length names = omega arith in
    let short : k < length actors = omega arith in
    get_or-map-range_with_len (actor_of names rates holds) 0 (length names) k k no_actor here (omega arith) ∙ one k short)
  where
    one : (k : ℕ) → k < length actors
        → actor_of (map (λ actor. actor.name) actors) (map (λ actor. actor.rate) actors) (map (λ actor. actor.hold) actors) k ≡ get_or actors k no_actor
    one k short =
        let name = get_or-map (λ (actor : ActorData). actor.name) actors k no_actor [] short in
        let rate = get_or-map (λ (actor : ActorData). actor.rate) actors k no_actor 0 short in
        let hold = get_or-map (λ (actor : ActorData). actor.hold) actors k no_actor 0 short in
        λ i. record { name = name i; rate = rate i; hold = hold i }

-- the parts of the canonical text, as they are written
abbrev pub written_parts : InstanceData → Parts
written_parts inst = record {
  header = header_fields inst.actors;
  rates = rate_fields inst.actors;
  hold = if has_own_holds inst.actors then Some (hold_fields inst.actors) else None;
  scenes = map (scene_fields (length inst.actors)) inst.scenes;
  befores = map (pair_fields (names_of inst)) inst.pairs;
  first = if has_own_holds inst.actors then 4 else 3;
}

-- the names that the rows of the scenes say
pub scene_names-written : (inst : InstanceData) → IsInstance inst → scene_names (map (scene_fields (length inst.actors)) inst.scenes) ≡ names_of inst
scene_names-written inst limits =
    let n = length inst.actors in
    ap (map (λ (row : Row). field_of row 0)) (scene_rows-all n inst.scenes limits.scenes) ∙ map-map (λ (row : Row). field_of row 0) (scene_fields n) inst.scenes

-- they say the instance
pub instance_of-written : (inst : InstanceData) → IsInstance inst → instance_of (written_parts inst) ≡ inst
instance_of-written inst limits =
    let n = length inst.actors in
    let rates : rates_of (rate_fields inst.actors) ≡ map (λ actor. actor.rate) inst.actors
    = rates_of-pay_fields (codes "rate") (λ actor. actor.rate) inst.actors (All-weaker IsActor (λ actor. actor.rate ≤ 1_000_000_000) (λ actor its. its.rate) inst.actors limits.actors) in
    let own = has_own_holds inst.actors in
    let hold = if own then Some (hold_fields inst.actors) else None in
    let names = map (λ (actor : ActorData). actor.name) inst.actors in
    let actors : actors_of names (rates_of (rate_fields inst.actors)) (holds_of (rates_of (rate_fields inst.actors)) hold) ≡ inst.actors
    = ap (λ list. actors_of names list (holds_of list hold)) rates
    ∙ ap (actors_of names (map (λ actor. actor.rate) inst.actors)) (holds_of-fields own inst.actors refl limits.actors) ∙ actors_of-parts inst.actors in
    let scenes = ap (map scene_of) (scene_rows-all n inst.scenes limits.scenes) ∙ map-map scene_of (scene_fields n) inst.scenes
    ∙ map_fixed (λ scene. scene_of (scene_fields n scene)) inst.scenes
    (All-weaker (IsScene n) (λ scene. scene_of (scene_fields n scene) ≡ scene) (λ scene is. scene_of-scene_fields n scene is) inst.scenes limits.scenes) in
    let pairs : pairs_of (scene_names (map (scene_fields n) inst.scenes)) (map (pair_fields (names_of inst)) inst.pairs) ≡ inst.pairs
    = ap (λ (list : List Field). pairs_of list (map (pair_fields (names_of inst)) inst.pairs)) (scene_names-written inst limits)
    ∙ pairs_of-written (names_of inst) (pairs-map (λ (scene : SceneData). scene.name) inst.scenes limits.scene_names) inst.pairs (fit_names inst limits.pairs) in
    λ i. record { scenes = scenes i; actors = actors i; pairs = pairs i }
