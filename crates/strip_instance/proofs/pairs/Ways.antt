-- The shortest way along pairs, as the definition finds it.
use Rattle.std.proofs.Common.{◌≡◌, ◌≢◌, ◌<◌, ◌⊎◌, ℕ, zero, suc, true, eqb, List, [], ◌∷◌, ◌++◌, length, All, Contains, Option, None, Some, option_map, refl, sym, ap, ◌∙◌, subst, inl, inr, arith, if◌then◌else◌}
use Rattle.std.specs.Option.{option_or}
use Rattle.std.proofs.lemmas.Bool.{cases_lt, and_parts, cases_Bool, cond-true, cond-false, eq-eqb, eqb-true, false≢true}
use Rattle.std.proofs.lemmas.List.{length-append}
use Rattle.std.proofs.lemmas.List.Elements.{All-nil, All-cons, All-contains}
use Rattle.strip_model.specs.declared.pair.Pair.{Pair}
use Rattle.strip_model.specs.Order.{IsBefore}
use Rattle.strip_model.specs.Pairs.{HasCycle, IsChain, IsKnownPair, Precedes}
use Rattle.strip_model.proofs.Before.{before-itself, before_trans}
use Rattle.strip_model.proofs.Chains.{cycle_from_long}
use Rattle.strip_model.proofs.Lists.{any_from, any_is}
use Rattle.strip_instance.specs.Ways.{IsShortestWay, IsWay}
use Rattle.strip_instance.specs.Befores.{first_below, least_way, precedes, same_pair, shortest_way}

-- ---- the first answer

pub cases_Option : {A : Type 0} (o : Option A) → (o ≡ None) ⊎ ((x : A) × (o ≡ Some x))
cases_Option None = inl refl
cases_Option (Some x) = inr (x, refl)

-- where no number below n has an answer, there is none
first_below-none : {A : Type 0} (n : ℕ) (answer : ℕ → Option A) → first_below n answer ≡ None → (k : ℕ) → k < n → answer k ≡ None
first_below-none zero answer none k within = absurd (omega arith)
first_below-none {A} (suc n) answer none k within = elim (cases_Option (first_below n answer)) [
  | inl before ↦ (let last : answer n ≡ None = sym (ap (λ o. option_or o (answer n)) before) ∙ none in
      elim (cases_lt k n) [
        | inl earlier ↦ first_below-none n answer before k earlier
        | inr past ↦ (let same : n ≡ k = omega arith in subst (λ i. answer i ≡ None) same last)
      ])
  | inr some ↦ (let there : Some some.0 ≡ None = sym (ap (λ o. option_or o (answer n)) some.1) ∙ none in cc)
]

-- an answer is that of a number below n, and no lesser one has one
record IsFirst {A : Type 0} (n : ℕ) (answer : ℕ → Option A) (found : A) : Type 0 where
  place : ℕ
  within : place < n
  here : answer place ≡ Some found
  before : (k : ℕ) → k < place → answer k ≡ None

first_below-some : {A : Type 0} (n : ℕ) (answer : ℕ → Option A) (found : A) → first_below n answer ≡ Some found → IsFirst n answer found
first_below-some zero answer found is = cc
first_below-some (suc n) answer found is = elim (cases_Option (first_below n answer)) [
  | inl none ↦ record {
    place = n;
    within = omega arith;
    here = sym (ap (λ o. option_or o (answer n)) none) ∙ is;
    before = λ k lt. first_below-none n answer none k lt;
  }
  | inr some ↦ (let earlier = first_below-some n answer some.0 some.1 in
      record {
        place = earlier.place;
        within = omega (arith, earlier.within);
        here = earlier.here ∙ sym (ap (λ o. option_or o (answer n)) some.1) ∙ is;
        before = earlier.before;
      })
]

-- ---- pairs, by a test and as a fact

pub same_pair-true : (a b : Pair) → same_pair a b ≡ true → a ≡ b
same_pair-true a b same =
    let both = and_parts (eqb a.first b.first) (eqb a.then b.then) same in
    let first : a.first ≡ b.first = eqb-true a.first b.first both.0 in
    let second : a.then ≡ b.then = eqb-true a.then b.then both.1 in
    λ i. record { first = first i; then = second i }

pub same_pair-refl : (a : Pair) → same_pair a a ≡ true
same_pair-refl a = rw (eq-eqb a.first a.first refl, eq-eqb a.then a.then refl) refl

pub precedes-from : (pairs : List Pair) (first second : ℕ) → Precedes pairs first second → precedes pairs first second ≡ true
precedes-from pairs first second there =
    let pair : Pair = record { first = first; then = second } in
    any_from (same_pair pair) pairs pair there (same_pair-refl pair)

pub precedes-is : (pairs : List Pair) (first second : ℕ) → precedes pairs first second ≡ true → Precedes pairs first second
precedes-is pairs first second is =
    let pair : Pair = record { first = first; then = second } in
    let found = any_is (same_pair pair) pairs is in
    subst (Contains pairs) (sym (same_pair-true pair found.0 found.2)) found.1

-- ---- ways by their steps

module _ (n : ℕ) (pairs : List Pair) (known : All (IsKnownPair n) pairs) where
  -- the list leads from the one scene to the other in so many steps
  abbrev pub IsStepped : ℕ → ℕ → ℕ → List ℕ → Type 0
  IsStepped zero from to way = (from ≡ to) × (way ≡ to ∷ [])
  IsStepped (suc steps) from to way = (next : ℕ) × (later : List ℕ) × Precedes pairs from next × IsStepped steps next to later × (way ≡ from ∷ later)

  -- it begins with the one
  begins : (steps from to : ℕ) (way : List ℕ) → IsStepped steps from to way → (rest : List ℕ) × (way ≡ from ∷ rest)
  begins zero from to way (same, is) = ([], is ∙ ap (λ scene. scene ∷ []) (sym same))
  begins (suc steps) from to way (next, later, step, rest, is) = (later, is)

  next_known : (from next : ℕ) → Precedes pairs from next → next < n
  next_known from next step = (All-contains (IsKnownPair n) pairs (record { first = from; then = next }) known step).1

  -- an answer is the least way of so many steps, and without one there is none
  abbrev pub IsLeast : ℕ → ℕ → ℕ → Option (List ℕ) → Type 0
  IsLeast steps from to None = (way : List ℕ) → IsStepped steps from to way → ⊥
  IsLeast steps from to (Some least) = IsStepped steps from to least × ((way : List ℕ) → IsStepped steps from to way → (least ≡ way) ⊎ IsBefore least way)

  -- what stands at a next scene
  abbrev at_next : ℕ → ℕ → ℕ → ℕ → Option (List ℕ)
  at_next steps from to next = if precedes pairs from next then least_way n pairs steps next to else None

  at_next-there : (steps from to next : ℕ) → Precedes pairs from next → at_next steps from to next ≡ least_way n pairs steps next to
  at_next-there steps from to next step = cond-true (precedes pairs from next) (least_way n pairs steps next to) None (precedes-from pairs from next step)

  at_next-some : (steps from to next : ℕ) (later : List ℕ) → at_next steps from to next ≡ Some later
      → Precedes pairs from next × (least_way n pairs steps next to ≡ Some later)
  at_next-some steps from to next later is = elim (cases_Bool (precedes pairs from next)) [
    | inl there ↦ (precedes-is pairs from next there, sym (cond-true (precedes pairs from next) (least_way n pairs steps next to) None there) ∙ is)
    | inr none ↦ (let never : None ≡ Some later = sym (cond-false (precedes pairs from next) (least_way n pairs steps next to) None none) ∙ is in absurd (cc))
  ]

  -- a next scene without an answer begins no way
  no_way_by : (steps from to next : ℕ) (later : List ℕ) → IsLeast steps next to (least_way n pairs steps next to) → at_next steps from to next ≡ None
      → Precedes pairs from next → IsStepped steps next to later → ⊥
  no_way_by steps from to next later least none step rest =
      let nothing : least_way n pairs steps next to ≡ None = sym (at_next-there steps from to next step) ∙ none in
      (subst (IsLeast steps next to) nothing least) later rest

  -- the lesser of two next scenes comes first
  lesser_first : (steps from to one other : ℕ) (least later : List ℕ) → one < other → IsStepped steps one to least → IsStepped steps other to later
      → IsBefore (from ∷ least) (from ∷ later)
  lesser_first steps from to one other least later lt first second =
      let a = begins steps one to least first in
      let b = begins steps other to later second in
      inr (refl, subst (λ (xs : List ℕ). IsBefore xs later) (sym a.1) (subst (IsBefore (one ∷ a.0)) (sym b.1) (inl lt)))

  -- the definition finds the least
  pub least : (steps from to : ℕ) → IsLeast steps from to (least_way n pairs steps from to)
  least zero from to = elim (cases_Bool (eqb from to)) [
    | inl same ↦ subst (IsLeast zero from to) (sym (cond-true (eqb from to) (Some (to ∷ [])) None same))
        ((eqb-true from to same, refl), λ way is. inl (sym is.1))
    | inr other ↦ subst (IsLeast zero from to) (sym (cond-false (eqb from to) (Some (to ∷ [])) None other))
        (λ way is. false≢true (sym other ∙ eq-eqb from to is.0))
  ]
  least (suc steps) from to =
      let answer = at_next steps from to in
      let front = option_map (λ (later : List ℕ). from ∷ later) in
      elim (cases_Option (first_below n answer)) [
        | inl none ↦ subst (IsLeast (suc steps) from to) (sym (ap front none)) (λ way is.
            let next = is.0 in
            let later = is.1 in
            no_way_by steps from to next later (least steps next to) (first_below-none n answer none next (next_known from next is.2)) is.2 is.3)
        | inr some ↦ (let first = first_below-some n answer some.0 some.1 in
            let here = at_next-some steps from to first.place some.0 first.here in
            let its : IsLeast steps first.place to (Some some.0) = subst (IsLeast steps first.place to) here.1 (least steps first.place to) in
            subst (IsLeast (suc steps) from to) (sym (ap front some.1)) (
              (first.place, some.0, here.0, its.0, refl),
              λ way is.
                  let next = is.0 in
                  let later = is.1 in
                  let whole : way ≡ from ∷ later = is.4 in
                  subst (λ (other : List ℕ). ((from ∷ some.0) ≡ other) ⊎ IsBefore (from ∷ some.0) other) (sym whole)
                  (elim (cases_lt next first.place) [
                    | inl lesser ↦ absurd (no_way_by steps from to next later (least steps next to) (first.before next lesser) is.2 is.3)
                    | inr past ↦ elim (cases_lt first.place next) [
                      | inl greater ↦ inr (lesser_first steps from to first.place next some.0 later greater its.0 is.3)
                      | inr equal ↦ (let same : next ≡ first.place = omega arith in
                          elim (its.1 later (subst (λ scene. IsStepped steps scene to later) same is.3)) [
                            | inl alike ↦ inl (ap (λ (rest : List ℕ). from ∷ rest) alike)
                            | inr before ↦ inr (inr (refl, before))
                          ])
                    ]
                  ]),
            ))
      ]

  -- ---- the shortest one

  pub stepped-length : (steps from to : ℕ) (way : List ℕ) → IsStepped steps from to way → length way ≡ suc steps
  stepped-length zero from to way is = ap length is.1
  stepped-length (suc steps) from to way is = ap length is.4 ∙ ap suc (stepped-length steps is.0 to is.1 is.3)

  pub stepped_from : (between : List ℕ) (from to : ℕ) → IsChain pairs (from ∷ between ++ to ∷ [])
      → IsStepped (suc (length between)) from to (from ∷ between ++ to ∷ [])
  stepped_from [] from to chain = (to, to ∷ [], chain.0, (refl, refl), refl)
  stepped_from (next ∷ later) from to chain = (next, next ∷ later ++ to ∷ [], chain.0, stepped_from later next to chain.1, refl)

  -- a way of at least one step as a chain between its ends
  pub record IsJoined (from to : ℕ) (way : List ℕ) : Type 0 where
    pub between : List ℕ
    pub whole : way ≡ from ∷ between ++ to ∷ []
    pub chain : IsChain pairs (from ∷ between ++ to ∷ [])

  pub stepped-joined : (steps from to : ℕ) (way : List ℕ) → IsStepped (suc steps) from to way → IsJoined from to way
  stepped-joined zero from to way is =
      let step : Precedes pairs from to = subst (Precedes pairs from) is.3.0 is.2 in
      record { between = []; whole = is.4 ∙ ap (λ (later : List ℕ). from ∷ later) is.3.1; chain = (step, tt) }
  stepped-joined (suc steps) from to way is =
      let rest = stepped-joined steps is.0 to is.1 is.3 in
      record {
        between = is.0 ∷ rest.between;
        whole = is.4 ∙ ap (λ (later : List ℕ). from ∷ later) rest.whole;
        chain = (is.2, rest.chain);
      }

  -- the answer is a way, no way has fewer steps, and none of as many comes first
  pub record IsShortest (from to : ℕ) (way : List ℕ) : Type 0 where
    pub steps : ℕ
    pub leads : IsStepped steps from to way
    pub first : (other : List ℕ) → IsStepped steps from to other → (way ≡ other) ⊎ IsBefore way other
    pub fewest : (fewer : ℕ) (other : List ℕ) → fewer < steps → IsStepped fewer from to other → ⊥

  pub shortest_found : (from to : ℕ) (way : List ℕ) → shortest_way n pairs from to ≡ Some way → IsShortest from to way
  shortest_found from to way is =
      let answer = λ (steps : ℕ). least_way n pairs steps from to in
      let found = first_below-some n answer way is in
      let its : IsLeast found.place from to (Some way) = subst (IsLeast found.place from to) found.here (least found.place from to) in
      record {
        steps = found.place;
        leads = its.0;
        first = its.1;
        fewest = λ fewer other lt leads. subst (IsLeast fewer from to) (found.before fewer lt) (least fewer from to) other leads;
      }

  -- the scenes of a chain with a step in it are known
  chain_known : (from next : ℕ) (later : List ℕ) → IsChain pairs (from ∷ next ∷ later) → All (λ scene. scene < n) (from ∷ next ∷ later)
  chain_known from next [] chain =
      let step = All-contains (IsKnownPair n) pairs (record { first = from; then = next }) known chain.0 in
      All-cons (λ scene. scene < n) from (next ∷ []) step.0 (All-cons (λ scene. scene < n) next [] step.1 (All-nil (λ scene. scene < n)))
  chain_known from next (more ∷ later) chain =
      let step = All-contains (IsKnownPair n) pairs (record { first = from; then = next }) known chain.0 in
      All-cons (λ scene. scene < n) from (next ∷ more ∷ later) step.0 (chain_known next more later chain.1)

  pub joined_known : (from to : ℕ) (between : List ℕ) → IsChain pairs (from ∷ between ++ to ∷ []) → All (λ scene. scene < n) (from ∷ between ++ to ∷ [])
  joined_known from to [] chain = chain_known from to [] chain
  joined_known from to (next ∷ later) chain = chain_known from next (later ++ to ∷ []) chain

  -- without a cycle a way has fewer steps than there are scenes
  pub no_answer : (from to : ℕ) (between : List ℕ) → (HasCycle pairs → ⊥) → shortest_way n pairs from to ≡ None
      → IsChain pairs (from ∷ between ++ to ∷ []) → ⊥
  no_answer from to between no_cycle none chain =
      let steps = suc (length between) in
      let long : length (from ∷ between ++ to ∷ []) ≡ suc steps = omega (arith, length-append between (to ∷ [])) in
      elim (cases_lt steps n) [
        | inl few ↦ (let nothing : least_way n pairs steps from to ≡ None
            = first_below-none n (λ k. least_way n pairs k from to) none steps few in
            subst (IsLeast steps from to) nothing (least steps from to) (from ∷ between ++ to ∷ []) (stepped_from between from to chain))
        | inr many ↦ no_cycle (cycle_from_long pairs n (from ∷ between ++ to ∷ []) chain (joined_known from to between chain) (omega (arith, many, long)))
      ]

-- the list that is found is the shortest way
pub found_shortest : (n : ℕ) (pairs : List Pair) (known : All (IsKnownPair n) pairs) (from to : ℕ) (way : List ℕ) → from ≢ to
    → shortest_way n pairs from to ≡ Some way → IsShortestWay pairs from to way
found_shortest n pairs known from to way apart is = by_steps (shortest_found n pairs known from to way is)
  where
    -- a way has one step more than scenes between its ends
    steps_of : (other : List ℕ) → IsWay pairs from to other → (steps : ℕ) × (suc steps ≡ length other) × IsStepped n pairs known steps from to other
    steps_of other is_way = (
      suc (length is_way.between),
      omega (arith, ap length is_way.ends, length-append is_way.between (to ∷ [])),
      subst (IsStepped n pairs known (suc (length is_way.between)) from to) (sym is_way.ends)
          (stepped_from n pairs known is_way.between from to (subst (IsChain pairs) is_way.ends is_way.chain)),
    )

    way_of : (steps : ℕ) → IsStepped n pairs known steps from to way → IsWay pairs from to way
    way_of zero leads = absurd (apart leads.0)
    way_of (suc steps) leads =
        let joined = stepped-joined n pairs known steps from to way leads in
        record { between = joined.between; ends = joined.whole; chain = subst (IsChain pairs) (sym joined.whole) joined.chain }

    by_steps : IsShortest n pairs known from to way → IsShortestWay pairs from to way
    by_steps found =
        let long : length way ≡ suc found.steps = stepped-length n pairs known found.steps from to way found.leads in
        record {
          way = way_of found.steps found.leads;
          fewest = λ other is_way.
              let its = steps_of other is_way in
              elim (cases_lt its.0 found.steps) [
                | inl fewer ↦ absurd (found.fewest its.0 other fewer its.2)
                | inr many ↦ omega (arith, long, its.1)
              ];
          first = λ other is_way as_many before.
              let its = steps_of other is_way in
              let same : its.0 ≡ found.steps = omega (arith, as_many, long, its.1) in
              elim (found.first other (subst (λ steps. IsStepped n pairs known steps from to other) same its.2)) [
                | inl equal ↦ before-itself way (subst (λ (scenes : List ℕ). IsBefore scenes way) (sym equal) before)
                | inr earlier ↦ before-itself way (before_trans way other way earlier before)
              ];
        }
