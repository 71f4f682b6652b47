-- How many days an order has, and what they cost at most.
use Rattle.std.proofs.Common.{◌≡◌, ℕ, ◌+◌, ◌*◌, ◌<◌, ◌≤◌, List, [], ◌++◌, All, length, get_or, take, map, replicate, slice_index, sum, sum_by, sym, ap, ◌∙◌, subst, arith}
use Rattle.std.proofs.Math.Nat.{mul-le-mul}
use Rattle.std.proofs.lemmas.List.{flat_map_more, length-map, length-replicate, take_more}
use Rattle.std.proofs.lemmas.List.Concat.{length-flat_map}
use Rattle.std.proofs.lemmas.List.Elements.{All-weaker}
use Rattle.strip_mask.proofs.Sums.{sum_below-slice}
use Rattle.strip_model.specs.Film.{FilmData}
use Rattle.strip_model.specs.Order.{IsOrder}
use Rattle.strip_model.proofs.Counts.{sum-order}
use Rattle.strip_model.specs.Data.{ActorData, InstanceData, IsActor, IsInstance, IsScene, SceneData}
use Rattle.strip_model.specs.FilmOf.{film_of}
use Rattle.strip_model.proofs.Small.{sum_most}
use Rattle.strip_model.specs.declared.scene.Actor.{Actor}
use Rattle.strip_model.specs.Instance.{actor_data}
use Rattle.strip_model.proofs.Scenes.{actor_is}
use Rattle.strip_mask.specs.Set.{has}
use Rattle.std.proofs.lemmas.List.Sums.{count_by-le-length}
use Rattle.strip_reports.specs.Days.{crews_of, hold_days, work_days}
use Rattle.strip_reports.proofs.Counted.{few_holds}

-- one more scene of the order
pub crews_next : (film : FilmData) (order crews : List ℕ) (k days cast : ℕ) → k < length order → crews ≡ crews_of film (take k order)
    → days ≡ slice_index film.days (get_or order k 0) → cast ≡ slice_index film.casts (get_or order k 0)
    → crews ++ replicate days cast ≡ crews_of film (take (k + 1) order)
crews_next film order crews k days cast lt so_far as_days as_cast =
    (λ i. so_far i ++ replicate (as_days i) (as_cast i))
    ∙ flat_map_more (λ scene. replicate (slice_index film.days scene) (slice_index film.casts scene)) [] (take k order) (get_or order k 0)
    ∙ ap (crews_of film) (sym (take_more order k 0 lt))

pub few_days : (inst : InstanceData) (order : List ℕ) → IsInstance inst → IsOrder (length inst.scenes) order → length (crews_of (film_of inst) order) ≤ 19800
few_days inst order is is_order =
    let film : FilmData = film_of inst in
    let each : length (crews_of film order) ≡ sum_by (λ scene. length (replicate (slice_index film.days scene) (slice_index film.casts scene))) order
    = length-flat_map (λ scene. replicate (slice_index film.days scene) (slice_index film.casts scene)) order in
    let by_days : length (crews_of film order) ≡ sum_by (slice_index film.days) order
    = each ∙ (λ i. sum_by (λ scene. length-replicate (slice_index film.days scene) (slice_index film.casts scene) i) order) in
    let count : length film.days ≡ length inst.scenes = length-map inst.scenes (λ (scene : SceneData). scene.days) in
    let whole : sum_by (slice_index film.days) order ≡ sum film.days
    = sum-order (length film.days) (slice_index film.days) order (subst (λ (n : ℕ). IsOrder n order) (sym count) is_order) ∙ sum_below-slice film.days in
    let most : sum film.days ≤ 200 * 99
    = sum_most (λ (scene : SceneData). scene.days) inst.scenes 200 99 is.scene_count.1 (All-weaker (IsScene (length inst.actors)) (λ scene. scene.days ≤ 99) (λ scene one. one.days.1) inst.scenes is.scenes) in
    omega (arith, by_days, whole, most)

part_most : (rate days : ℕ) → rate ≤ 1000000000 → days ≤ 19800 → rate * days ≤ 19800000000000
part_most rate days small few = omega (arith, mul-le-mul small few)

-- what an actor gets for his days of work and of waiting, as the code has them
pub pay_most : (actors : List Actor) (seen : List ActorData) (i : ℕ) (known : Actor) (crews : List ℕ) (work hold : ℕ)
    → map actor_data actors ≡ seen → i < length seen → known ≡ get_or actors i known → All IsActor seen
    → length crews ≤ 19800 → work ≡ work_days crews i → hold ≡ hold_days crews i
    → (known.rate * work ≤ 19800000000000) × (known.hold * hold ≤ 19800000000000)
pay_most actors seen i known crews work hold same lt here each few is_work is_hold =
    let is : IsActor (actor_data known) = subst (λ (actor : Actor). IsActor (actor_data actor)) (sym here) (actor_is actors seen i known same lt each) in
    let worked : work ≤ 19800 = omega (arith, is_work, count_by-le-length (λ crew. has crew i) crews, few) in
    let waited : hold ≤ 19800 = omega (arith, is_hold, few_holds crews i (length crews), few) in
    (part_most known.rate work is.rate worked, part_most known.hold hold is.hold waited)
