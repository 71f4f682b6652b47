-- From the least numbers of steps to the shortest list of scenes.
use Rattle.std.proofs.Common.{◌≡◌, ◌≢◌, ℕ, zero, suc, ◌+◌, ◌<◌, ◌≤◌, List, [], ◌∷◌, ◌++◌, length, slice_index, All, refl, sym, ap, ◌∙◌, subst, arith, append_assoc, inl, inr}
use Rattle.std.proofs.lemmas.Bool.{cases_lt}
use Rattle.strip_model.specs.declared.pair.Pair.{Pair}
use Rattle.strip_model.specs.Order.{IsBefore}
use Rattle.strip_model.specs.Pairs.{Precedes, IsKnownPair, Leads}
use Rattle.strip_instance.specs.Steps.{StepsTo, AreSteps, Nears, IsLeastNearer}
use Rattle.strip_instance.specs.Ways.{IsShortestWay}
use Rattle.strip_instance.proofs.Ways.{Runs, runs-of_way, way-of_runs, steps-of_way, way-of_steps, few_steps, first_below, second_below}

-- as a shortest way, but it may be one scene alone
pub record IsShortestRun (pairs : List Pair) (from to : ℕ) (scenes : List ℕ) : Type 0 where
  pub runs : Runs pairs from to scenes
  pub fewest : (other : List ℕ) → Runs pairs from to other → length scenes ≤ length other
  pub first : (other : List ℕ) → Runs pairs from to other → length other ≡ length scenes → ¬ IsBefore other scenes

pub shortest-of_run : (pairs : List Pair) (from to : ℕ) (scenes : List ℕ) → from ≢ to → IsShortestRun pairs from to scenes → IsShortestWay pairs from to scenes
shortest-of_run pairs from to scenes apart is = record {
  way = way-of_runs pairs from to scenes apart is.runs;
  fewest = λ other way. is.fewest other (runs-of_way pairs from to other way);
  first = λ other way. is.first other (runs-of_way pairs from to other way);
}

pub run-at_last : (pairs : List Pair) (to : ℕ) → IsShortestRun pairs to to (to ∷ [])
run-at_last pairs to = record { runs = record { begins = refl; ends = refl; chain = tt }; fewest = some; first = none }
  where
    some : (other : List ℕ) → Runs pairs to to other → 1 ≤ length other
    some [] runs = absurd runs.begins
    some (x ∷ xs) runs = omega arith

    none : (other : List ℕ) → Runs pairs to to other → length other ≡ 1 → IsBefore other (to ∷ []) → ⊥
    none [] runs same before = runs.begins
    none (x ∷ []) runs same (inl less) = omega (arith, less, runs.begins)
    none (x ∷ []) runs same (inr tie) = tie.1
    none (x ∷ y ∷ ys) runs same before = omega (arith, same)

-- the scenes so far are the front of a shortest way, whatever the shortest one from the last of them is
pub record GoesOn (pairs : List Pair) (to from scene : ℕ) (scenes : List ℕ) : Type 0 where
  pub front : List ℕ
  pub parts : scenes ≡ front ++ scene ∷ []
  pub joins : (rest : List ℕ) → IsShortestRun pairs scene to rest → IsShortestRun pairs from to (front ++ rest)

pub goes_on-begin : (pairs : List Pair) (to from : ℕ) → GoesOn pairs to from from (from ∷ [])
goes_on-begin pairs to from = record { front = []; parts = refl; joins = λ rest is. is }

module _ (pairs : List Pair) (to : ℕ) (steps : List ℕ) (known : All (IsKnownPair 200) pairs) (are : AreSteps pairs to steps) where
  pub triangle : (scene next : ℕ) → Precedes pairs scene next → slice_index steps scene ≤ slice_index steps next + 1
  triangle scene next there = elim (cases_lt (slice_index steps next) 200) [
    | inl few ↦ (let by : slice_index steps scene ≤ suc (slice_index steps next)
        = are.least scene (suc (slice_index steps next)) (first_below pairs 200 known scene next there) (next, there, are.sound next (second_below pairs 200 known scene next there) few) in
        omega (arith, by))
    | inr far ↦ omega (arith, are.small scene)
  ]

  pub begins_near : (from : ℕ) → from < 200 → Leads pairs from to → slice_index steps from < 200
  begins_near from small leads =
      let few = few_steps pairs 200 known from to leads in
      omega (arith, few.1, are.least from few.0 small few.2)

  -- a scene from which no pair leads nearer is the last one
  pub ended : (scene : ℕ) → scene < 200 → slice_index steps scene < 200 → ((other : ℕ) → Nears pairs steps scene other → ⊥) → scene ≡ to
  ended scene small near none = go (slice_index steps scene) refl (are.sound scene small near)
    where
      go : (count : ℕ) → slice_index steps scene ≡ count → StepsTo pairs to count scene → scene ≡ to
      go zero is here = here
      go (suc count) is (next, there, onward) =
          let near_next : slice_index steps next ≤ count = are.least next count (second_below pairs 200 known scene next there) onward in
          absurd (none next (there, omega (arith, near_next, is, triangle scene next there)))

  module _ (scene next : ℕ) (near : slice_index steps scene < 200) (least : IsLeastNearer pairs steps scene next) where
    next_small : next < 200
    next_small = second_below pairs 200 known scene next least.nearer.0

    run_few : (rest : List ℕ) → IsShortestRun pairs next to rest → length rest ≤ slice_index steps next + 1
    run_few rest is =
        let way = way-of_steps pairs to (slice_index steps next) next (are.sound next next_small (omega (arith, near, least.nearer.1))) in
        omega (arith, way.1, is.fewest (next ∷ way.0) (record { begins = refl; ends = way.3; chain = way.2 }))

    -- a scene alone isn't the last one
    not_alone : scene ≡ to → ⊥
    not_alone here =
        let at_once : slice_index steps scene ≤ 0 = are.least scene 0 (first_below pairs 200 known scene next least.nearer.0) here in
        omega (arith, at_once, least.nearer.1)

    -- what another list of scenes is when it is no longer
    nears_too : (w : ℕ) (ws : List ℕ) → Precedes pairs scene w → Runs pairs w to (w ∷ ws) → length ws ≤ slice_index steps next → Nears pairs steps scene w
    nears_too w ws there runs few =
        let by : slice_index steps w ≤ length ws = are.least w (length ws) (second_below pairs 200 known scene w there) (steps-of_way pairs to w ws runs.chain runs.ends) in
        (there, omega (arith, by, few, least.nearer.1, triangle scene w there))

    pub run-onward : (rest : List ℕ) → IsShortestRun pairs next to rest → IsShortestRun pairs scene to (scene ∷ rest)
    run-onward [] is = absurd is.runs.begins
    run-onward (y ∷ ys) is = record { runs = runs; fewest = fewest; first = first }
      where
        few : suc (length ys) ≤ slice_index steps next + 1
        few = run_few (y ∷ ys) is

        runs : Runs pairs scene to (scene ∷ y ∷ ys)
        runs = record {
          begins = refl;
          ends = is.runs.ends;
          chain = (subst (Precedes pairs scene) (sym is.runs.begins) least.nearer.0, is.runs.chain);
        }

        tail : (z w : ℕ) (ws : List ℕ) → Runs pairs scene to (z ∷ w ∷ ws) → Runs pairs w to (w ∷ ws)
        tail z w ws other = record { begins = refl; ends = other.ends; chain = other.chain.1 }

        step : (z w : ℕ) (ws : List ℕ) → Runs pairs scene to (z ∷ w ∷ ws) → Precedes pairs scene w
        step z w ws other = subst (λ (x : ℕ). Precedes pairs x w) other.begins other.chain.0

        fewest : (other : List ℕ) → Runs pairs scene to other → suc (suc (length ys)) ≤ length other
        fewest [] other = absurd other.begins
        fewest (z ∷ []) other = absurd (not_alone (sym other.begins ∙ other.ends))
        fewest (z ∷ w ∷ ws) other =
            let by : slice_index steps w ≤ length ws = are.least w (length ws) (second_below pairs 200 known scene w (step z w ws other)) (steps-of_way pairs to w ws other.chain.1 other.ends) in
            omega (arith, few, by, least.nearer.1, triangle scene w (step z w ws other))

        first : (other : List ℕ) → Runs pairs scene to other → length other ≡ suc (suc (length ys)) → IsBefore other (scene ∷ y ∷ ys) → ⊥
        first [] other same before = other.begins
        first (z ∷ []) other same before = not_alone (sym other.begins ∙ other.ends)
        first (z ∷ w ∷ ws) other same (inl less) = omega (arith, less, other.begins)
        first (z ∷ w ∷ ws) other same (inr (tie, inl less)) =
            omega (arith, less, is.runs.begins, least.least w (nears_too w ws (step z w ws other) (tail z w ws other) (omega (arith, same, few))))
        first (z ∷ w ∷ ws) other same (inr (tie, inr (equal, later))) =
            is.first (w ∷ ws) (record { begins = equal ∙ is.runs.begins; ends = other.ends; chain = other.chain.1 }) (omega (arith, same)) (inr (equal, later))

  pub goes_on-more : (from scene next : ℕ) (scenes : List ℕ) → slice_index steps scene < 200 → IsLeastNearer pairs steps scene next
      → GoesOn pairs to from scene scenes → GoesOn pairs to from next (scenes ++ next ∷ [])
  goes_on-more from scene next scenes near least on = record {
    front = scenes;
    parts = refl;
    joins = λ rest is. subst (IsShortestRun pairs from to) (sym (ap (λ (xs : List ℕ). xs ++ rest) on.parts ∙ append_assoc on.front (scene ∷ []) rest))
        (on.joins (scene ∷ rest) (run-onward scene next near least rest is));
  }

  pub goes_on-end : (from scene : ℕ) (scenes : List ℕ) → from ≢ to → scene < 200 → slice_index steps scene < 200
      → ((other : ℕ) → Nears pairs steps scene other → ⊥) → GoesOn pairs to from scene scenes → IsShortestWay pairs from to scenes
  goes_on-end from scene scenes apart small near none on =
      let here : scene ≡ to = ended scene small near none in
      shortest-of_run pairs from to scenes apart (subst (IsShortestRun pairs from to) (sym on.parts)
      (on.joins (scene ∷ []) (subst (λ (x : ℕ). IsShortestRun pairs x to (x ∷ [])) (sym here) (run-at_last pairs to))))
