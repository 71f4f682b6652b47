-- Events that are taken one after the other.
use Rattle.std.proofs.Common.{◌≡◌, ℕ, zero, suc, ◌+◌, ◌<◌, List, [], ◌∷◌, length, get_or, refl, sym, subst, arith}
use Rattle.strip_world.specs.declared.event.Event.{Event}
use Rattle.strip_world.specs.declared.event.Reply.{Reply}
use Rattle.strip_world.specs.Allowed.{IsAllowed}
use Rattle.strip_world.specs.Steps.{Runs, Steps}
use Rattle.strip_world.specs.World.{WorldData}

-- the first n of the events, each allowed when it came, make this of the world
abbrev pub Took : WorldData → List Event → ℕ → WorldData → Type 0
Took world events zero after = after ≡ world
Took world [] (suc n) after = ⊥
Took world (event ∷ events) (suc n) after =
    IsAllowed world event × ((between : WorldData) × (reply : Reply) × Steps world event between reply × Took between events n after)

took_more : (n : ℕ) (world : WorldData) (events : List Event) (between after : WorldData) (event : Event) (reply : Reply) → Took world events n between → n < length events
    → event ≡ get_or events n event → IsAllowed between event → Steps between event after reply → Took world events (suc n) after
took_more zero world [] between after event reply took lt is allowed step = absurd (omega (arith, lt))
took_more zero world (x ∷ events) between after event reply took lt is allowed step = (
  subst (λ (e : Event). IsAllowed world e) is (subst (λ (w : WorldData). IsAllowed w event) took allowed),
  (after, reply, subst (λ (e : Event). Steps world e after reply) is (subst (λ (w : WorldData). Steps w event after reply) took step), refl),
)
took_more (suc n) world [] between after event reply took lt is allowed step = absurd took
took_more (suc n) world (x ∷ events) between after event reply (first, (next, answer, made, rest)) lt is allowed step =
    (first, (next, answer, made, took_more n next events between after event reply rest (omega (arith, lt)) is allowed step))

pub took_next : (n : ℕ) (world : WorldData) (events : List Event) (between after : WorldData) (event : Event) (reply : Reply) → Took world events n between → n < length events
    → event ≡ get_or events n event → IsAllowed between event → Steps between event after reply → Took world events (n + 1) after
took_next n world events between after event reply took lt is allowed step =
    let next : suc n ≡ n + 1 = omega arith in
    subst (λ (k : ℕ). Took world events k after) next (took_more n world events between after event reply took lt is allowed step)

-- it ends at an event that isn't allowed
pub ran_to : (n : ℕ) (world : WorldData) (events : List Event) (after : WorldData) (event : Event) → Took world events n after → n < length events → event ≡ get_or events n event
    → (IsAllowed after event → ⊥) → Runs world events n after
ran_to zero world [] after event took lt is stops = absurd (omega (arith, lt))
ran_to zero world (x ∷ events) after event took lt is stops =
    (took, λ allowed. stops (subst (λ (e : Event). IsAllowed after e) (sym is) (subst (λ (w : WorldData). IsAllowed w x) (sym took) allowed)))
ran_to (suc n) world [] after event took lt is stops = absurd took
ran_to (suc n) world (x ∷ events) after event (first, (next, answer, made, rest)) lt is stops =
    (first, (next, answer, made, ran_to n next events after event rest (omega (arith, lt)) is stops))

-- or with the last one
pub ran_all : (world : WorldData) (events : List Event) (after : WorldData) → Took world events (length events) after → Runs world events (length events) after
ran_all world [] after took = (took, tt)
ran_all world (x ∷ events) after (first, (next, answer, made, rest)) = (first, (next, answer, made, ran_all next events after rest))
