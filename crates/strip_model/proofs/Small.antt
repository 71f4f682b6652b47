-- What an order of an instance pays at most.
use Rattle.std.proofs.Common.{ℕ, ◌*◌, ◌^◌, ◌<◌, ◌≤◌, List, length, map, sum, All, sym, ◌∙◌, subst, arith}
use Rattle.std.proofs.Math.Nat.{mul-le-mul}
use Rattle.std.proofs.lemmas.List.{length-map}
use Rattle.std.proofs.lemmas.List.Elements.{All-map, All-weaker}
use Rattle.std.proofs.lemmas.List.Sums.{sum_by-le}
use Rattle.strip_model.specs.Order.{IsOrder}
use Rattle.strip_model.specs.Pay.{pay_of}
use Rattle.strip_model.proofs.Pays.{pay_small}
use Rattle.strip_model.specs.Data.{InstanceData, SceneData, ActorData, IsInstance, IsScene, IsActor}
use Rattle.strip_model.specs.FilmOf.{film_of}

-- the sum of values that are at most m each, of at most n elements
pub sum_most : {X : Type 0} (value : X → ℕ) (xs : List X) (n m : ℕ) → length xs ≤ n → All (λ x. value x ≤ m) xs → sum (map value xs) ≤ n * m
sum_most value xs n m few each =
    let all : All (λ x. x ≤ m) (map value xs) = All-map (λ x. x ≤ m) value xs each in
    let within : sum (map value xs) ≤ length (map value xs) * m = sum_by-le (λ x. x) m (map value xs) all in
    let more : length (map value xs) * m ≤ n * m = mul-le-mul {m₂ = m} (subst (λ (k : ℕ). k ≤ n) (sym (length-map xs value)) few) (omega arith) in
    omega (arith, within, more)

pub pay_small_of : (inst : InstanceData) (order : List ℕ) → IsInstance inst → IsOrder (length inst.scenes) order → pay_of (film_of inst) order < 2 ^ 63
pay_small_of inst order is is_order =
    pay_small (film_of inst) order
    (length-map inst.actors (λ (actor : ActorData). actor.hold) ∙ sym (length-map inst.actors (λ (actor : ActorData). actor.rate)))
    (subst (λ (n : ℕ). IsOrder n order) (sym (length-map inst.scenes (λ (scene : SceneData). scene.days))) is_order)
    (sum_most (λ (scene : SceneData). scene.days) inst.scenes 200 99 is.scene_count.1 (All-weaker (IsScene (length inst.actors)) (λ scene. scene.days ≤ 99) (λ scene one. one.days.1) inst.scenes is.scenes))
    (sum_most (λ (actor : ActorData). actor.rate) inst.actors 64 1000000000 is.actor_count (All-weaker IsActor (λ actor. actor.rate ≤ 1000000000) (λ actor one. one.rate) inst.actors is.actors))
    (sum_most (λ (actor : ActorData). actor.hold) inst.actors 64 1000000000 is.actor_count (All-weaker IsActor (λ actor. actor.hold ≤ 1000000000) (λ actor one. one.hold) inst.actors is.actors))
