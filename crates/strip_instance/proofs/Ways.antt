-- Ways along pairs by the number of their steps, and that some way has fewer steps than there are scenes.
use Rattle.std.proofs.Common.{◌≡◌, ◌≢◌, ℕ, zero, suc, ◌<◌, ◌≤◌, List, [], ◌∷◌, ◌++◌, length, All, refl, sym, ap, ◌∙◌, subst, arith, append_assoc, inl, inr}
use Rattle.std.proofs.lemmas.Bool.{cases_lt}
use Rattle.std.proofs.lemmas.List.{length-append}
use Rattle.std.proofs.lemmas.List.Elements.{All-nil, All-cons, All-contains}
use Rattle.strip_model.specs.declared.pair.Pair.{Pair}
use Rattle.strip_model.specs.Pairs.{Precedes, IsChain, IsKnownPair, Leads}
use Rattle.strip_model.proofs.Before.{before_total}
use Rattle.strip_model.proofs.Chains.{chain-behind, chain-front}
use Rattle.strip_model.proofs.Counts.{Repeats, repeats}
use Rattle.strip_model.proofs.Leads.{chain_joined}
use Rattle.strip_instance.specs.Steps.{StepsTo}
use Rattle.strip_instance.specs.Ways.{IsShortestWay, IsWay}

-- the first of the list is this scene
abbrev pub BeginsWith : ℕ → List ℕ → Type 0
BeginsWith from [] = ⊥
BeginsWith from (scene ∷ later) = scene ≡ from

-- the last of the list is this scene
abbrev pub EndsWith : ℕ → List ℕ → Type 0
EndsWith to [] = ⊥
EndsWith to (scene ∷ []) = scene ≡ to
EndsWith to (scene ∷ next ∷ later) = EndsWith to (next ∷ later)

-- ---- ways and steps

module _ (pairs : List Pair) (to : ℕ) where
  pub steps-of_way : (scene : ℕ) (later : List ℕ) → IsChain pairs (scene ∷ later) → EndsWith to (scene ∷ later) → StepsTo pairs to (length later) scene
  steps-of_way scene [] chain ends = ends
  steps-of_way scene (next ∷ later) chain ends = (next, chain.0, steps-of_way next later chain.1 ends)

  pub way-of_steps : (count scene : ℕ) → StepsTo pairs to count scene
      → (later : List ℕ) × (length later ≡ count) × IsChain pairs (scene ∷ later) × EndsWith to (scene ∷ later)
  way-of_steps zero scene here = ([], refl, tt, here)
  way-of_steps (suc count) scene (next, there, onward) =
      let rest = way-of_steps count next onward in
      (next ∷ rest.0, ap suc rest.1, (there, rest.2), rest.3)

ends-pushed : (to : ℕ) (xs : List ℕ) (x : ℕ) → EndsWith to (x ∷ xs ++ to ∷ [])
ends-pushed to [] x = refl
ends-pushed to (y ∷ ys) x = ends-pushed to ys y

ends-behind : (to : ℕ) (xs : List ℕ) (x : ℕ) (ys : List ℕ) → EndsWith to (xs ++ x ∷ ys) → EndsWith to (x ∷ ys)
ends-behind to [] x ys ends = ends
ends-behind to (z ∷ []) x ys ends = ends
ends-behind to (z ∷ w ∷ ws) x ys ends = ends-behind to (w ∷ ws) x ys ends

ends-joined : (to : ℕ) (xs : List ℕ) (x : ℕ) (ys : List ℕ) → EndsWith to (x ∷ ys) → EndsWith to (xs ++ x ∷ ys)
ends-joined to [] x ys ends = ends
ends-joined to (z ∷ []) x ys ends = ends
ends-joined to (z ∷ w ∷ ws) x ys ends = ends-joined to (w ∷ ws) x ys ends

last-split : (to x : ℕ) (xs : List ℕ) → EndsWith to (x ∷ xs) → (before : List ℕ) × (x ∷ xs ≡ before ++ to ∷ [])
last-split to x [] ends = ([], ap (λ (y : ℕ). y ∷ []) ends)
last-split to x (y ∷ ys) ends = let rest = last-split to y ys ends in (x ∷ rest.0, ap (λ (zs : List ℕ). x ∷ zs) rest.1)

-- a list of scenes along the pairs, by its first and last; it may be one scene alone
pub record Runs (pairs : List Pair) (from to : ℕ) (scenes : List ℕ) : Type 0 where
  pub begins : BeginsWith from scenes
  pub ends : EndsWith to scenes
  pub chain : IsChain pairs scenes

pub runs-of_leads : (pairs : List Pair) (from to : ℕ) (leads : Leads pairs from to) → Runs pairs from to (from ∷ leads.0 ++ to ∷ [])
runs-of_leads pairs from to leads = record { begins = refl; ends = ends-pushed to leads.0 from; chain = leads.1 }

pub runs-of_way : (pairs : List Pair) (from to : ℕ) (scenes : List ℕ) → IsWay pairs from to scenes → Runs pairs from to scenes
runs-of_way pairs from to scenes way =
    subst (Runs pairs from to) (sym way.ends) (runs-of_leads pairs from to (way.between, subst (IsChain pairs) way.ends way.chain))

pub way-of_runs : (pairs : List Pair) (from to : ℕ) (scenes : List ℕ) → from ≢ to → Runs pairs from to scenes → IsWay pairs from to scenes
way-of_runs pairs from to [] apart runs = absurd runs.begins
way-of_runs pairs from to (scene ∷ []) apart runs = absurd (apart (sym runs.begins ∙ runs.ends))
way-of_runs pairs from to (scene ∷ next ∷ later) apart runs =
    let split = last-split to next later runs.ends in
    record {
      between = split.0;
      ends = ap (λ (zs : List ℕ). scene ∷ zs) split.1 ∙ ap (λ (x : ℕ). x ∷ split.0 ++ to ∷ []) runs.begins;
      chain = runs.chain;
    }

-- ---- there is one shortest way

pub shortest_once : (pairs : List Pair) (from to : ℕ) (a b : List ℕ) → IsShortestWay pairs from to a → IsShortestWay pairs from to b → a ≡ b
shortest_once pairs from to a b one other =
    let same : length a ≡ length b = omega (arith, one.fewest b other.way, other.fewest a one.way) in
    elim (before_total a b) [
      | inl before ↦ absurd (other.first a one.way same before)
      | inr rest ↦ elim rest [
        | inl equal ↦ equal
        | inr after ↦ absurd (one.first b other.way (sym same) after)
      ]
    ]

-- ---- a way with fewer steps than scenes

module _ (pairs : List Pair) (n : ℕ) (known : All (IsKnownPair n) pairs) where
  pub first_below : (first second : ℕ) → Precedes pairs first second → first < n
  first_below first second there = (All-contains (IsKnownPair n) pairs (record { first = first; then = second }) known there).0

  pub second_below : (first second : ℕ) → Precedes pairs first second → second < n
  second_below first second there = (All-contains (IsKnownPair n) pairs (record { first = first; then = second }) known there).1

  chain_below : (x : ℕ) (xs : List ℕ) → x < n → IsChain pairs (x ∷ xs) → All (λ y. y < n) (x ∷ xs)
  chain_below x [] small chain = All-cons (λ y. y < n) x [] small (All-nil (λ y. y < n))
  chain_below x (y ∷ ys) small chain = All-cons (λ z. z < n) x (y ∷ ys) small (chain_below y ys (second_below x y chain.0) chain.1)

  -- what remains of a way without what lies between two places of one scene
  cut : (from to : ℕ) (xs : List ℕ) (twice : Repeats xs) → Runs pairs from to xs → Runs pairs from to (twice.before ++ twice.number ∷ twice.after)
  cut from to xs twice way =
      let whole : Runs pairs from to (twice.before ++ twice.number ∷ (twice.between ++ twice.number ∷ twice.after)) = subst (Runs pairs from to) twice.parts way in
      let front : IsChain pairs (twice.before ++ twice.number ∷ [])
      = chain-front pairs (twice.before ++ twice.number ∷ []) (twice.between ++ twice.number ∷ twice.after)
      (subst (IsChain pairs) (sym (append_assoc twice.before (twice.number ∷ []) (twice.between ++ twice.number ∷ twice.after))) whole.chain) in
      let behind : IsChain pairs (twice.number ∷ (twice.between ++ twice.number ∷ twice.after))
      = chain-behind pairs twice.before (twice.number ∷ (twice.between ++ twice.number ∷ twice.after)) whole.chain in
      let after : IsChain pairs (twice.number ∷ twice.after) = chain-behind pairs (twice.number ∷ twice.between) (twice.number ∷ twice.after) behind in
      let ends : EndsWith to (twice.number ∷ twice.after)
      = ends-behind to (twice.number ∷ twice.between) twice.number twice.after (ends-behind to twice.before twice.number (twice.between ++ twice.number ∷ twice.after) whole.ends) in
      record {
        begins = begins twice.before twice.number (twice.between ++ twice.number ∷ twice.after) twice.after whole.begins;
        ends = ends-joined to twice.before twice.number twice.after ends;
        chain = chain_joined pairs twice.before twice.number twice.after front after;
      }
    where
      begins : (before : List ℕ) (x : ℕ) (ys zs : List ℕ) → BeginsWith from (before ++ x ∷ ys) → BeginsWith from (before ++ x ∷ zs)
      begins [] x ys zs is = is
      begins (y ∷ before) x ys zs is = is

  few : (fuel from to : ℕ) (xs : List ℕ) → length xs ≤ fuel → from < n → Runs pairs from to xs → (ys : List ℕ) × (length ys ≤ n) × Runs pairs from to ys
  few zero from to [] short small way = absurd way.begins
  few zero from to (x ∷ xs) short small way = absurd (omega (arith, short))
  few (suc fuel) from to [] short small way = absurd way.begins
  few (suc fuel) from to (x ∷ xs) short small way = elim (cases_lt n (length (x ∷ xs))) [
    | inl more ↦ (let x_small : x < n = subst (λ (y : ℕ). y < n) (sym way.begins) small in
        let twice : Repeats (x ∷ xs) = repeats n (x ∷ xs) (chain_below x xs x_small way.chain) more in
        few fuel from to (twice.before ++ twice.number ∷ twice.after) (shorter (x ∷ xs) twice fuel short) small (cut from to (x ∷ xs) twice way))
    | inr enough ↦ (x ∷ xs, enough, way)
  ]
    where
      shorter : (zs : List ℕ) (twice : Repeats zs) (count : ℕ) → length zs ≤ suc count → length (twice.before ++ twice.number ∷ twice.after) ≤ count
      shorter zs twice count most =
          let whole : length zs ≡ length (twice.before ++ twice.number ∷ (twice.between ++ twice.number ∷ twice.after)) = ap length twice.parts in
          omega (
            arith,
            most,
            whole,
            length-append twice.before (twice.number ∷ (twice.between ++ twice.number ∷ twice.after)),
            length-append twice.between (twice.number ∷ twice.after),
            length-append twice.before (twice.number ∷ twice.after),
          )

  pub begin_below : (from to : ℕ) → Leads pairs from to → from < n
  begin_below from to ([], chain) = first_below from to chain.0
  begin_below from to (next ∷ rest, chain) = first_below from next chain.0

  -- where pairs lead on to the last scene, they do so by fewer steps than there are scenes
  pub few_steps : (from to : ℕ) → Leads pairs from to → (count : ℕ) × (count < n) × StepsTo pairs to count from
  few_steps from to leads =
      let short = few (length (from ∷ leads.0 ++ to ∷ [])) from to (from ∷ leads.0 ++ to ∷ []) (omega arith) (begin_below from to leads) (runs-of_leads pairs from to leads) in
      counted short.0 short.1 short.2
    where
      counted : (ys : List ℕ) → length ys ≤ n → Runs pairs from to ys → (count : ℕ) × (count < n) × StepsTo pairs to count from
      counted [] most is = absurd is.begins
      counted (y ∷ ys) most is = (length ys, omega (arith, most), subst (StepsTo pairs to (length ys)) is.begins (steps-of_way pairs to y ys is.chain is.ends))

  pub last_below : (from to : ℕ) → Leads pairs from to → to < n
  last_below from to ([], chain) = second_below from to chain.0
  last_below from to (next ∷ rest, chain) = last_below next to (rest, chain.1)
