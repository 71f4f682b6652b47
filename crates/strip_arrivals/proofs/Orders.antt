-- Orders of leaving, one actor after the other, and the runs of a group alone.
use Rattle.std.proofs.Common.{◌≡◌, ◌≢◌, ℕ, true, List, [], ◌∷◌, All, Contains, map, refl, sym, ap, ◌∙◌, subst, inl, inr, arith}
use Rattle.std.proofs.lemmas.Bool.{false_from_ne_true}
use Rattle.std.proofs.lemmas.Bool.Decides.{eqb_tells}
use Rattle.std.proofs.lemmas.List.Elements.{All-head, All-tail, All-cons, All-nil, All-weaker}
use Rattle.strip_mask.specs.Set.{IsSet, has, minus, with, without}
use Rattle.strip_mask.proofs.ByMembers.{IsSet-minus, has-without_other, has_from_without, empty_from, empty_has, minus_none}
use Rattle.strip_mask.proofs.Members.{Contains-members}
use Rattle.strip_group.specs.Group.{GroupData, IsLeaving}
use Rattle.strip_arrivals.specs.Arrivals.{Event, IsRun, StateData, after, events, is_allowed, leaves}
use Rattle.strip_mask.proofs.Lists.{contains_none, count, count_here, count_none, count_other, none_counted}
use Rattle.strip_arrivals.proofs.Lists.{contains_from_filter}
use Rattle.strip_arrivals.proofs.Along.{can_leave}
use Rattle.strip_arrivals.proofs.Runs.{all_fine, by_kind, may, minus-with}

-- those of a group who have still to leave do so in this order
abbrev pub Leave : ℕ → ℕ → List ℕ → Type 0
Leave group left [] = minus group left ≡ 0
Leave group left (actor ∷ later) = (has (minus group left) actor ≡ true) × Leave group (with left actor) later

-- an order of a set, one actor after the other
one_by_one : (group left : ℕ) (order : List ℕ) → IsLeaving (minus group left) order → Leave group left order
one_by_one group left [] leaving = empty_from (minus group left) (λ i. false_from_ne_true (has (minus group left) i) (λ there. omega (arith, leaving.once i there)))
one_by_one group left (actor ∷ later) leaving =
    let stays : has (minus group left) actor ≡ true = All-head (λ y. has (minus group left) y ≡ true) actor later leaving.known in
    let others : All (λ y. y ≢ actor) later = none_counted actor later (omega (arith, count_here actor later, leaving.once actor stays)) in
    let known : All (λ y. has (minus group left) y ≡ true) later = All-tail (λ y. has (minus group left) y ≡ true) actor later leaving.known in
    let rest : IsLeaving (without (minus group left) actor) later = record {
      known = λ k d lt. has-without_other (minus group left) actor _ (λ same. others k d lt (sym same)) ∙ known k d lt;
      once = λ i there. (let parts = has_from_without (minus group left) actor i there in
          sym (count_other i actor later parts.0) ∙ leaving.once i parts.1);
    } in
    (stays, one_by_one group (with left actor) later (subst (λ s. IsLeaving s later) (sym (minus-with group left actor)) rest))

-- and the other way
as_order : (group left : ℕ) (order : List ℕ) → Leave group left order → IsLeaving (minus group left) order
as_order group left [] none = record {
  known = All-nil (λ y. has (minus group left) y ≡ true);
  once = λ i there. absurd (empty_has i (subst (λ s. has s i ≡ true) none there));
}
as_order group left (actor ∷ later) (stays, rest) =
    let leaving : IsLeaving (without (minus group left) actor) later = subst (λ s. IsLeaving s later) (minus-with group left actor) (as_order group (with left actor) later rest) in
    let others : All (λ y. y ≢ actor) later = All-weaker (λ y. has (without (minus group left) actor) y ≡ true) (λ y. y ≢ actor)
    (λ y there same. (has_from_without (minus group left) actor y there).0 (sym same)) later leaving.known in record {
      known = All-cons (λ y. has (minus group left) y ≡ true) actor later stays (All-weaker (λ y. has (without (minus group left) actor) y ≡ true)
          (λ y. has (minus group left) y ≡ true) (λ y there. (has_from_without (minus group left) actor y there).1) later leaving.known);
      once = λ i there. elim (eqb_tells actor i) [
        | inl same ↦ subst (λ k. count k (actor ∷ later) ≡ 1) same.1 (omega (arith, count_here actor later, count_none actor later others))
        | inr other ↦ count_other i actor later other.1 ∙ leaving.once i (has-without_other (minus group left) actor i other.1 ∙ there)
      ];
    }

pub order_leaves : (group : ℕ) (order : List ℕ) → IsLeaving group order → Leave group 0 order
order_leaves group order leaving = one_by_one group 0 order (subst (λ s. IsLeaving s order) (sym (minus_none group)) leaving)

pub leaves_order : (group : ℕ) (order : List ℕ) → Leave group 0 order → IsLeaving group order
leaves_order group order leave = subst (λ s. IsLeaving s order) (minus_none group) (as_order group 0 order leave)

-- ---- runs

-- these have left, and nobody else comes or goes
abbrev pub after_leaving : ℕ → StateData
after_leaving left = record { left = left; coming = 0; here = []; gone = 0 }

module _ (film : GroupData) (set group : ℕ) (small : IsSet group) where
  pub run_of : (left : ℕ) (order : List ℕ) → Leave group left order → IsRun film set group (after_leaving left) (map leaves order)
  run_of left [] none = (none, refl, refl)
  run_of left (actor ∷ later) (stays, rest) = (
    may film set group small (after_leaving left) (leaves actor) (can_leave group (after_leaving left) actor (Contains-members (minus group left) actor
        (IsSet-minus group left small) stays)) (all_fine film set group small (after_leaving left) (leaves actor) refl),
    run_of (with left actor) later rest,
  )

  -- the events are leavings
  abbrev IsLeavingOf : ℕ → Event → Type 0
  IsLeavingOf left event = (actor : ℕ) × (event ≡ leaves actor) × (has (minus group left) actor ≡ true)

  a_leaving : (left : ℕ) (event : Event) → Contains (events group (after_leaving left)) event → IsLeavingOf left event
  a_leaving left event there = by_kind film set group small (after_leaving left) event (IsLeavingOf left) there
      (λ actor expected. absurd (empty_has actor expected)) (λ actor stays. (actor, refl, stays)) (λ actor here. absurd (contains_none actor here))

  pub order_of : (left : ℕ) (run : List Event) → IsRun film set group (after_leaving left) run
      → (order : List ℕ) × (map leaves order ≡ run) × Leave group left order
  order_of left [] over = ([], refl, over.0)
  order_of left (event ∷ later) (first, rest) =
      let one = a_leaving left event (contains_from_filter (is_allowed film set (after_leaving left)) (events group (after_leaving left)) event first).0 in
      let go_on = order_of (with left one.0) later (subst (λ e. IsRun film set group (after (after_leaving left) e) later) one.1 rest) in (
        one.0 ∷ go_on.0,
        ap (λ (es : List Event). leaves one.0 ∷ es) go_on.1 ∙ ap (λ (e : Event). e ∷ later) (sym one.1),
        (one.2, go_on.2),
      )
