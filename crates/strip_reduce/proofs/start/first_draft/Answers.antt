use Rattle.std.proofs.Common.{◌≡◌, ℕ, List, Vec, Global, map, [], ◌∷◌, length, sym, ap, ◌∙◌, subst}
use Rattle.std.proofs.lemmas.List.{length-map}
use Rattle.strip_mask.specs.Set.{numbers_below}
use Rattle.strip_model.specs.declared.pair.Pair.{Pair}
use Rattle.strip_model.specs.Data.{InstanceData, SceneData}
use Rattle.strip_model.specs.FilmOf.{film_of}
use Rattle.strip_model.specs.Instance.{actor_data, scene_data}
use Rattle.strip_reduce.specs.Draft.{IsDraft, draft_state}
use Rattle.strip_reduce.specs.State.{State, start}
use Rattle.strip_reduce.proofs.Begun.{is_film_of, seen_through}
use Rattle.strip_reduce.proofs.Drafts.{draft-start}
use Rattle.strip_reduce.proofs.start.first_draft.Goals as goal

-- the state of these lists, where they are the instance's
starts : (inst : InstanceData) (casts days rates holds : List ℕ) (pairs : List Pair) (members : List (List ℕ)) (count : ℕ)
    → casts ≡ (film_of inst).casts → days ≡ (film_of inst).days → rates ≡ (film_of inst).rates → holds ≡ (film_of inst).holds → pairs ≡ inst.pairs
    → members ≡ map (λ scene. scene ∷ []) (numbers_below count) → count ≡ length inst.scenes
    → record { film = record { casts = casts; days = days; rates = rates; holds = holds; pairs = pairs }; members = members; apart = 0 } ≡ start (film_of inst)
starts inst casts days rates holds pairs members count c d r h p m n =
    let all : members ≡ (start (film_of inst)).members = m ∙ ap (λ (k : ℕ). map (λ (scene : ℕ). scene ∷ []) (numbers_below k)) (n ∙ sym (length-map inst.scenes (λ (scene : SceneData). scene.cast))) in
    λ i. record { film = record { casts = c i; days = d i; rates = r i; holds = h i; pairs = p i }; members = all i; apart = 0 }

pub returns : goal.returns
returns c =
    let inst : InstanceData = c.args.inst.now in
    let scenes = c.scenes-scenes.result.now in
    let actors = c.actors-actors.result.now in
    let state : draft_state (record {
      casts = c.in_ok-casts_of.field-0;
      days = c.in_ok-days_of.field-0;
      rates = c.in_ok-rates_of.field-0;
      holds = c.in_ok-holds_of.field-0;
      pairs = c.in_ok-from_slice.field-0;
      members = c.in_ok-single_scenes.field-0;
      apart = 0;
      compared = record { scenes = 0; actors = 0 };
    }) ≡ start (film_of inst) =
    starts inst c.in_ok-casts_of.field-0.items c.in_ok-days_of.field-0.items c.in_ok-rates_of.field-0.items c.in_ok-holds_of.field-0.items
    c.in_ok-from_slice.field-0.items (map (λ (list : Vec ℕ Global). list.items) c.in_ok-single_scenes.field-0.items) (length scenes)
    (c.in_ok-casts_of.ensures ∙ seen_through scene_data (λ scene. scene.cast) scenes inst.scenes c.scenes-scenes.ensures.scenes)
    (c.in_ok-days_of.ensures ∙ seen_through scene_data (λ scene. scene.days) scenes inst.scenes c.scenes-scenes.ensures.scenes)
    (c.in_ok-rates_of.ensures ∙ seen_through actor_data (λ actor. actor.rate) actors inst.actors c.actors-actors.ensures.actors)
    (c.in_ok-holds_of.ensures ∙ seen_through actor_data (λ actor. actor.hold) actors inst.actors c.actors-actors.ensures.actors)
    (c.in_ok-from_slice.ensures.items ∙ c.pairs.ensures.pairs) c.in_ok-single_scenes.ensures c.scenes-scenes.ensures.count
    in
    record { state = state; draft = subst (λ (at : State). IsDraft at (record { scenes = 0; actors = 0 })) (sym state) (draft-start (film_of inst) (is_film_of inst c.scenes-scenes.ensures.limits)) }
