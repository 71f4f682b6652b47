-- A pass over the pairs, and that the passes end with the least numbers of steps.
use Rattle.std.proofs.Common.{◌≡◌, ◌≢◌, ℕ, zero, suc, ◌+◌, ◌<◌, ◌≤◌, Bool, true, false, List, length, slice_index, get_or, set, take, replicate, All, Contains, sym, ap, ◌∙◌, subst, arith, inl, inr}
use Rattle.std.proofs.lemmas.Bool.{cases_lt, cases_eq}
use Rattle.std.proofs.lemmas.List.{take_more, get_or-set_same, get_or-set_other, length-set, get_or-replicate, get_or_past, length-replicate, get_or_default}
use Rattle.std.proofs.lemmas.List.Elements.{Contains-push_cases, Contains-get_or}
use Rattle.strip_model.specs.declared.pair.Pair.{Pair}
use Rattle.strip_model.specs.Pairs.{Precedes, IsKnownPair}
use Rattle.strip_instance.specs.Steps.{StepsTo, AreSound, AreSteps, CameCloser}
use Rattle.strip_instance.proofs.Ways.{first_below, second_below}

-- as `CameCloser`, of the pairs that were seen
pub record SoFar (pairs seen : List Pair) (before now : List ℕ) (closer : Bool) : Type 0 where
  pub less : (scene : ℕ) → slice_index now scene ≤ slice_index before scene
  pub by_pairs : (pair : Pair) → Contains seen pair → slice_index now pair.first ≤ slice_index before pair.then + 1
  pub sound : (to : ℕ) → AreSound pairs to before → AreSound pairs to now
  pub settled : closer ≡ false → now ≡ before
  pub size : length now ≡ 200

module _ (pairs : List Pair) (before now : List ℕ) (closer : Bool) (i : ℕ) (d : Pair) (within : i < length pairs)
    (so_far : SoFar pairs (take i pairs) before now closer) where
  by_cases : (after : List ℕ) → ((scene : ℕ) → slice_index after scene ≤ slice_index now scene)
      → slice_index after (get_or pairs i d).first ≤ slice_index now (get_or pairs i d).then + 1
      → (pair : Pair) → Contains (take (i + 1) pairs) pair → slice_index after pair.first ≤ slice_index before pair.then + 1
  by_cases after less by pair there =
      elim (Contains-push_cases (take i pairs) (get_or pairs i d) pair (subst (λ (list : List Pair). Contains list pair) (take_more pairs i d within) there)) [
        | inl earlier ↦ omega (arith, less pair.first, so_far.by_pairs pair earlier)
        | inr same ↦ subst (λ (p : Pair). slice_index after p.first ≤ slice_index before p.then + 1) same (omega (arith, by, so_far.less (get_or pairs i d).then))
      ]

  pub so_far-same : slice_index now (get_or pairs i d).first ≤ slice_index now (get_or pairs i d).then + 1 → SoFar pairs (take (i + 1) pairs) before now closer
  so_far-same by = record {
    less = so_far.less;
    by_pairs = by_cases now (λ scene. omega arith) by;
    sound = so_far.sound;
    settled = so_far.settled;
    size = so_far.size;
  }

  pub so_far-lowered : All (IsKnownPair 200) pairs → slice_index now (get_or pairs i d).then + 1 < slice_index now (get_or pairs i d).first
      → SoFar pairs (take (i + 1) pairs) before (set now (get_or pairs i d).first (slice_index now (get_or pairs i d).then + 1)) true
  so_far-lowered known lower = record {
    less = λ scene. omega (arith, so_far.less scene, lowered scene);
    by_pairs = by_cases after lowered (omega (arith, here));
    sound = sound;
    settled = λ no_closer. absurd (let clash : true ≡ false = no_closer in cc);
    size = simp length-set so_far.size;
  }
    where
      this : Pair
      this = get_or pairs i d

      after : List ℕ
      after = set now (get_or pairs i d).first (slice_index now (get_or pairs i d).then + 1)

      there : Contains pairs (get_or pairs i d)
      there = Contains-get_or pairs i d within

      first_small : (get_or pairs i d).first < 200
      first_small = first_below pairs 200 known (get_or pairs i d).first (get_or pairs i d).then there

      here : slice_index (set now (get_or pairs i d).first (slice_index now (get_or pairs i d).then + 1)) (get_or pairs i d).first ≡ slice_index now (get_or pairs i d).then + 1
      here = get_or-set_same now (get_or pairs i d).first (slice_index now (get_or pairs i d).then + 1) 0 (omega (arith, first_small, so_far.size))

      elsewhere : (scene : ℕ) → scene ≢ (get_or pairs i d).first
          → slice_index (set now (get_or pairs i d).first (slice_index now (get_or pairs i d).then + 1)) scene ≡ slice_index now scene
      elsewhere scene other = get_or-set_other now (get_or pairs i d).first scene (slice_index now (get_or pairs i d).then + 1) 0 other

      lowered : (scene : ℕ) → slice_index (set now (get_or pairs i d).first (slice_index now (get_or pairs i d).then + 1)) scene ≤ slice_index now scene
      lowered scene = elim (cases_eq scene (get_or pairs i d).first) [
        | inl same ↦ rw same (omega (arith, here, lower))
        | inr other ↦ omega (arith, elsewhere scene other)
      ]

      sound : (to : ℕ) → AreSound pairs to before → AreSound pairs to (set now (get_or pairs i d).first (slice_index now (get_or pairs i d).then + 1))
      sound to of_before scene small near = elim (cases_eq scene (get_or pairs i d).first) [
        | inl same ↦ (let counted : slice_index (set now (get_or pairs i d).first (slice_index now (get_or pairs i d).then + 1)) scene ≡ suc (slice_index now (get_or pairs i d).then)
            = ap (slice_index (set now (get_or pairs i d).first (slice_index now (get_or pairs i d).then + 1))) same ∙ here ∙ omega arith in
            subst (λ (count : ℕ). StepsTo pairs to count scene) (sym counted) (
              (get_or pairs i d).then,
              subst (λ (x : ℕ). Precedes pairs x (get_or pairs i d).then) (sym same) there,
              so_far.sound to of_before (get_or pairs i d).then (second_below pairs 200 known (get_or pairs i d).first (get_or pairs i d).then there) (omega (arith, counted, near)),
            ))
        | inr other ↦ subst (λ (count : ℕ). StepsTo pairs to count scene) (sym (elsewhere scene other))
            (so_far.sound to of_before scene small (omega (arith, near, elsewhere scene other)))
      ]

-- ---- pass after pass

pub all_small : (steps : List ℕ) → ((scene : ℕ) → slice_index steps scene ≤ 200) → All (λ count. count ≤ 200) steps
all_small steps small = λ place d within. subst (λ (count : ℕ). count ≤ 200) (get_or_default steps place 0 d within) (small place)

-- after this many passes the numbers of ways with at most so many steps are the least
pub record AreNear (pairs : List Pair) (to passes : ℕ) (steps : List ℕ) : Type 0 where
  pub sound : AreSound pairs to steps
  pub near : (count scene : ℕ) → count ≤ passes → StepsTo pairs to count scene → slice_index steps scene ≤ count
  pub small : (scene : ℕ) → slice_index steps scene ≤ 200

module _ (pairs : List Pair) (to : ℕ) where
  pub near-begin : to < 200 → AreNear pairs to 0 (set (replicate {A = ℕ} 200 200) to 0)
  near-begin small = record {
    sound = λ scene scene_small few. elim (cases_eq scene to) [
      | inl same ↦ subst (λ (count : ℕ). StepsTo pairs to count scene) (sym (ap (slice_index (set (replicate {A = ℕ} 200 200) to 0)) same ∙ here)) same
      | inr other ↦ absurd (omega (arith, few, elsewhere scene other, get_or-replicate {A = ℕ} 200 scene 200 0 scene_small))
    ];
    near = near;
    small = λ scene. elim (cases_eq scene to) [
      | inl same ↦ rw same (omega (arith, here))
      | inr other ↦ elim (cases_lt scene 200) [
        | inl lt ↦ omega (arith, elsewhere scene other, get_or-replicate {A = ℕ} 200 scene 200 0 lt)
        | inr past ↦ omega (arith, elsewhere scene other, get_or_past (replicate {A = ℕ} 200 200) scene 0 (omega (arith, length-replicate {A = ℕ} 200 200)))
      ]
    ];
  }
    where
      here : slice_index (set (replicate {A = ℕ} 200 200) to 0) to ≡ 0
      here = get_or-set_same (replicate {A = ℕ} 200 200) to 0 0 (omega (arith, length-replicate {A = ℕ} 200 200))

      elsewhere : (scene : ℕ) → scene ≢ to → slice_index (set (replicate {A = ℕ} 200 200) to 0) scene ≡ slice_index (replicate {A = ℕ} 200 200) scene
      elsewhere scene other = get_or-set_other (replicate {A = ℕ} 200 200) to scene 0 0 other

      near : (count scene : ℕ) → count ≤ 0 → StepsTo pairs to count scene → slice_index (set (replicate {A = ℕ} 200 200) to 0) scene ≤ count
      near zero scene le same = rw same (omega (arith, here))
      near (suc count) scene le steps = absurd (omega (arith, le))

  pub near-more : (passes : ℕ) (before after : List ℕ) → AreNear pairs to passes before → CameCloser pairs before after → AreNear pairs to (passes + 1) after
  near-more passes before after are came = record {
    sound = came.sound to are.sound;
    near = near;
    small = λ scene. omega (arith, came.less scene, are.small scene);
  }
    where
      near : (count scene : ℕ) → count ≤ passes + 1 → StepsTo pairs to count scene → slice_index after scene ≤ count
      near zero scene le here = omega (arith, came.less scene, are.near 0 scene (omega arith) here)
      near (suc count) scene le (next, there, onward) =
          omega (arith, came.by_pairs (record { first = scene; then = next }) there, are.near count next (omega (arith, le)) onward)

  -- a pass that changes nothing shows that all numbers are the least
  pub steps-settled : (passes : ℕ) (steps : List ℕ) → AreNear pairs to passes steps → CameCloser pairs steps steps → AreSteps pairs to steps
  steps-settled passes steps are came = record { sound = are.sound; least = λ scene count small. near count scene; small = are.small }
    where
      near : (count scene : ℕ) → StepsTo pairs to count scene → slice_index steps scene ≤ count
      near zero scene here = are.near 0 scene (omega arith) here
      near (suc count) scene (next, there, onward) =
          omega (arith, came.by_pairs (record { first = scene; then = next }) there, near count next onward)

  pub steps-all : (steps : List ℕ) → AreNear pairs to 200 steps → AreSteps pairs to steps
  steps-all steps are = record {
    sound = are.sound;
    least = λ scene count small leads. elim (cases_lt count 200) [
      | inl few ↦ are.near count scene (omega arith) leads
      | inr many ↦ omega (arith, are.small scene)
    ];
    small = are.small;
  }
