-- What is still to be paid for at open scenes that were shot, and that an event is charged no more than it closes.
use Rattle.std.proofs.Common.{◌≡◌, ◌≢◌, ℕ, ◌+◌, ◌*◌, ◌≤◌, Bool, true, false, not, ◌&&◌, ◌||◌, eqb, cond, slice_index, sum_by, refl, sym, ap, ◌∙◌, arith}
use Rattle.std.proofs.lemmas.Bool.{false≢true, and_parts, not-true, not_from_false}
use Rattle.std.proofs.lemmas.Nat.{mul-le}
use Rattle.strip_mask.specs.Set.{IsSet, has, sum_over, union, with, without}
use Rattle.strip_mask.specs.Sums.{sum_below}
use Rattle.strip_mask.proofs.ByMembers.{below_64, has-union, has-with, has-without_other, same_has, union_swap}
use Rattle.strip_mask.proofs.Sums.{sum_below-add, sum_below_mono, sum_below-point}
use Rattle.strip_group.specs.Group.{GroupData}
use Rattle.strip_arrivals.specs.Arrivals.{StateData, after, goes, is_open, is_without, leaves, open_scenes, price}
use Rattle.strip_arrivals.proofs.Lists.{sum_passing}
use Rattle.strip_arrivals.proofs.Casts.{without_one}
use Rattle.std.proofs.Math.Bool.{or_assoc}
use Rattle.strip_mask.proofs.Totals.{cond_most}

-- ---- who is off

same_off : (left gone actor : ℕ) → union (with left actor) gone ≡ with (union left gone) actor
same_off left gone actor = same_has (union (with left actor) gone) (with (union left gone) actor) (λ i.
    has-union (with left actor) gone i ∙ ap (λ b. b || has gone i) (has-with left actor i)
    ∙ or_assoc (eqb actor i) (has left i) (has gone i)
    ∙ sym (has-with (union left gone) actor i ∙ ap (λ b. eqb actor i || b) (has-union left gone i)))

same_gone : (left gone actor : ℕ) → union left (with gone actor) ≡ with (union left gone) actor
same_gone left gone actor = union_swap left (with gone actor) ∙ same_off gone left actor ∙ ap (λ (s : ℕ). with s actor) (union_swap gone left)

-- the scenes that stay open when one leaves or goes are those in which he doesn't work
pub open_after_leaving : (film : GroupData) (state : StateData) (actor scene : ℕ) → is_open film (after state (leaves actor)) scene
    ≡ (is_open film state scene && not (has (slice_index film.casts scene) actor))
open_after_leaving film state actor scene =
    ap (λ (s : ℕ). is_without film s scene) (same_off state.left state.gone actor) ∙ without_one film (union state.left state.gone) actor scene

pub open_after_going : (film : GroupData) (state : StateData) (actor scene : ℕ) → is_open film (after state (goes actor)) scene
    ≡ (is_open film state scene && not (has (slice_index film.casts scene) actor))
open_after_going film state actor scene =
    ap (λ (s : ℕ). is_without film s scene) (same_gone state.left state.gone actor) ∙ without_one film (union state.left state.gone) actor scene

-- ---- what is still to be paid for

module _ (film : GroupData) (set group : ℕ) where
  -- the scene was shot, and isn't paid for yet
  abbrev pub is_unpaid : ℕ → StateData → ℕ → Bool
  is_unpaid rest state scene = (has set scene && not (has rest scene)) && is_open film state scene

  -- the days of a scene at the hold rates of those who wait
  abbrev pub pay_at : (ℕ → ℕ) → ℕ → ℕ
  pay_at waiters scene = slice_index film.days scene * sum_over film.holds (waiters scene)

  -- what is still waited at open scenes that were shot
  abbrev pub unpaid : (ℕ → ℕ) → ℕ → StateData → ℕ
  unpaid waiters rest state = sum_below 64 (λ scene. cond (is_unpaid rest state scene) (pay_at waiters scene) 0)

  no_more : (there shot before after works : Bool) (paid due : ℕ) → (after ≡ true → (before ≡ true) × (works ≡ false))
      → (there ≡ true → before ≡ true → works ≡ true → (shot ≡ true) × (paid ≤ due))
      → cond {A = ℕ} (there && (before && works)) paid 0 + cond {A = ℕ} ((there && shot) && after) due 0 ≤ cond {A = ℕ} ((there && shot) && before) due 0
  no_more false shot before after works paid due still closed = omega arith
  no_more true true false true works paid due still closed = absurd (false≢true (still refl).0)
  no_more true true false false works paid due still closed = omega arith
  no_more true false false after works paid due still closed = omega arith
  no_more true true true true true paid due still closed = absurd (false≢true (sym (still refl).1))
  no_more true true true false true paid due still closed = omega (arith, (closed refl refl refl).1)
  no_more true true true true false paid due still closed = omega arith
  no_more true true true false false paid due still closed = omega arith
  no_more true false true after true paid due still closed = absurd (false≢true (closed refl refl refl).0)
  no_more true false true after false paid due still closed = omega arith

  -- who leaves or goes is charged no more than is still waited at the scenes that he closes
  pub charge_le : (waiters : ℕ → ℕ) (rest actor : ℕ) (before next : StateData)
      → ((scene : ℕ) → is_open film next scene ≡ (is_open film before scene && not (has (slice_index film.casts scene) actor)))
      → ((scene : ℕ) → has set scene ≡ true → is_open film before scene ≡ true → has (slice_index film.casts scene) actor ≡ true
      → (has rest scene ≡ false) × (price film set group before scene ≤ sum_over film.holds (waiters scene)))
      → sum_by (λ scene. slice_index film.days scene * price film set group before scene) (open_scenes film set before actor) + unpaid waiters rest next
      ≤ unpaid waiters rest before
  charge_le waiters rest actor before next still closed =
      let paid : ℕ → ℕ = λ scene. slice_index film.days scene * price film set group before scene in
      let closes : ℕ → Bool = λ scene. is_open film before scene && has (slice_index film.casts scene) actor in
      let first : ℕ → ℕ = λ scene. cond {A = ℕ} (has set scene && closes scene) (paid scene) 0 in
      let second : ℕ → ℕ = λ scene. cond {A = ℕ} (is_unpaid rest next scene) (pay_at waiters scene) 0 in
      let all : ℕ → ℕ = λ scene. cond {A = ℕ} (is_unpaid rest before scene) (pay_at waiters scene) 0 in
      let now : sum_by paid (open_scenes film set before actor) ≡ sum_below 64 first = sum_passing paid closes set in
      let both : sum_below 64 (λ scene. first scene + second scene) ≡ sum_below 64 first + sum_below 64 second = sum_below-add 64 first second in
      let within : sum_below 64 (λ scene. first scene + second scene) ≤ sum_below 64 all
      = sum_below_mono 64 (λ scene. first scene + second scene) all (λ scene _.
      no_more (has set scene) (not (has rest scene)) (is_open film before scene) (is_open film next scene) (has (slice_index film.casts scene) actor) (paid scene)
      (pay_at waiters scene) (λ opens. let parts = and_parts (is_open film before scene) (not (has (slice_index film.casts scene) actor)) (sym (still scene) ∙ opens) in
      (parts.0, not-true (has (slice_index film.casts scene) actor) parts.1)) (λ there unpaid_yet works. let found = closed scene there unpaid_yet works in (
        not_from_false (has rest scene) found.0,
        mul-le (slice_index film.days scene) (price film set group before scene) (slice_index film.days scene) (sum_over film.holds (waiters scene)) (omega arith) found.1,
      ))) in
      omega (arith, now, both, within)

  -- a scene that is shot adds at most what is waited at it
  pub shoot_le : (old new : ℕ → ℕ) (rest scene : ℕ) (state : StateData) → IsSet rest → has rest scene ≡ true → ((other : ℕ) → scene ≢ other → new other ≡ old other)
      → unpaid new (without rest scene) state ≤ unpaid old rest state + pay_at new scene
  shoot_le old new rest scene state small there same =
      let first : ℕ → ℕ = λ s. cond {A = ℕ} (is_unpaid rest state s) (pay_at old s) 0 in
      let second : ℕ → ℕ = λ s. cond {A = ℕ} (is_unpaid (without rest scene) state s) (pay_at new s) 0 in
      let apart : sum_below 64 first + second scene ≡ sum_below 64 second + first scene
      = sum_below-point 64 scene first second (below_64 rest scene small there) (λ other _ differs.
      ap (λ b. cond {A = ℕ} ((has set other && not b) && is_open film state other) (pay_at old other) 0) (sym (has-without_other rest scene other differs))
      ∙ ap (λ n. cond {A = ℕ} (is_unpaid (without rest scene) state other) (slice_index film.days other * sum_over film.holds n) 0) (sym (same other differs))) in
      omega (arith, apart, cond_most (is_unpaid (without rest scene) state scene) (pay_at new scene))
