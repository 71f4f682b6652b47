-- Where pairs lead to, and where with a pair more.
use Rattle.std.proofs.Common.{◌≡◌, ◌≢◌, ◌↔◌, ℕ, ◌⊎◌, List, [], ◌∷◌, ◌++◌, refl, sym, ap, subst, append_assoc, inl, inr}
use Rattle.std.proofs.lemmas.List.Elements.{Contains-append_left, Contains-push, Contains-push_cases}
use Rattle.strip_model.specs.declared.pair.Pair.{Pair}
use Rattle.strip_model.specs.Pairs.{Precedes, IsChain, HasCycle, Leads}
use Rattle.strip_mask.proofs.Lists.{contains_none}

-- the one scene is the other, or leads to it
abbrev pub Reaches : List Pair → ℕ → ℕ → Type 0
Reaches pairs from to = (from ≡ to) ⊎ Leads pairs from to

-- no pairs lead from a scene to another
pub no_chain : (from : ℕ) (between : List ℕ) (to : ℕ) → IsChain [] (from ∷ between ++ to ∷ []) → ⊥
no_chain from [] to chain = contains_none (record { first = from; then = to }) chain.0
no_chain from (next ∷ rest) to chain = contains_none (record { first = from; then = next }) chain.0

module _ (pairs : List Pair) where
  pub chain_joined : (xs : List ℕ) (middle : ℕ) (ys : List ℕ) → IsChain pairs (xs ++ middle ∷ []) → IsChain pairs (middle ∷ ys) → IsChain pairs (xs ++ middle ∷ ys)
  chain_joined [] middle ys one other = other
  chain_joined (x ∷ []) middle ys one other = (one.0, other)
  chain_joined (x ∷ z ∷ zs) middle ys one other = (one.0, chain_joined (z ∷ zs) middle ys one.1 other)

  pub leads_through : (from middle to : ℕ) → Leads pairs from middle → Leads pairs middle to → Leads pairs from to
  leads_through from middle to one other = (
    one.0 ++ middle ∷ other.0,
    subst (λ (zs : List ℕ). IsChain pairs (from ∷ zs)) (sym (append_assoc one.0 (middle ∷ other.0) (to ∷ [])))
        (chain_joined (from ∷ one.0) middle (other.0 ++ to ∷ []) one.1 other.1),
  )

  pub reaches_leads : (from middle to : ℕ) → Reaches pairs from middle → Leads pairs middle to → Leads pairs from to
  reaches_leads from middle to (inl same) other = subst (λ (x : ℕ). Leads pairs x to) (sym same) other
  reaches_leads from middle to (inr one) other = leads_through from middle to one other

  pub leads_reaches : (from middle to : ℕ) → Leads pairs from middle → Reaches pairs middle to → Leads pairs from to
  leads_reaches from middle to one (inl same) = subst (Leads pairs from) same one
  leads_reaches from middle to one (inr other) = leads_through from middle to one other

  pub reaches_through : (from middle to : ℕ) → Reaches pairs from middle → Reaches pairs middle to → Reaches pairs from to
  reaches_through from middle to one (inl same) = subst (Reaches pairs from) same one
  reaches_through from middle to one (inr other) = inr (reaches_leads from middle to one other)

  pub leads_by_one : (first second : ℕ) → Precedes pairs first second → Leads pairs first second
  leads_by_one first second there = ([], (there, tt))

  pub reaches_from_next : (from next to : ℕ) → Precedes pairs from next → Reaches pairs next to → Leads pairs from to
  reaches_from_next from next to there onward = leads_reaches from next to (leads_by_one from next there) onward

-- ---- a pair more

module _ (pairs more : List Pair) where
  chain_more : (xs : List ℕ) → IsChain pairs xs → IsChain (pairs ++ more) xs
  chain_more [] chain = tt
  chain_more (x ∷ []) chain = tt
  chain_more (x ∷ y ∷ ys) chain = (Contains-append_left pairs more (record { first = x; then = y }) chain.0, chain_more (y ∷ ys) chain.1)

  pub leads_more : (from to : ℕ) → Leads pairs from to → Leads (pairs ++ more) from to
  leads_more from to leads = (leads.0, chain_more (from ∷ leads.0 ++ to ∷ []) leads.1)

  reaches_more : (from to : ℕ) → Reaches pairs from to → Reaches (pairs ++ more) from to
  reaches_more from to (inl same) = inl same
  reaches_more from to (inr leads) = inr (leads_more from to leads)

  pub cycle_more : HasCycle pairs → HasCycle (pairs ++ more)
  cycle_more cycle = let leads = leads_more cycle.scene cycle.scene (cycle.between, cycle.returns) in
      record { scene = cycle.scene; between = leads.0; returns = leads.1 }

module _ (pairs : List Pair) (pair : Pair) where
  -- with the pair more, a scene leads to another where it did, or by way of the pair
  abbrev pub LeadsBy : ℕ → ℕ → Type 0
  LeadsBy from to = Leads pairs from to ⊎ (Reaches pairs from pair.first × Reaches pairs pair.then to)

  step_to : (from next to : ℕ) → Precedes (pairs ++ pair ∷ []) from next → Reaches pairs next to ⊎ (Reaches pairs next pair.first × Reaches pairs pair.then to) → LeadsBy from to
  step_to from next to step onward = elim (Contains-push_cases pairs pair (record { first = from; then = next }) step) [
    | inl before ↦ elim onward [
      | inl reaches ↦ inl (reaches_from_next pairs from next to before reaches)
      | inr by ↦ inr (inr (leads_reaches pairs from next pair.first (leads_by_one pairs from next before) by.0), by.1)
    ]
    | inr same ↦ (let begin : from ≡ pair.first = sym (ap (λ (p : Pair). p.first) same) in
        let arrive : pair.then ≡ next = ap (λ (p : Pair). p.then) same in
        elim onward [
          | inl reaches ↦ inr (inl begin, subst (λ (x : ℕ). Reaches pairs x to) (sym arrive) reaches)
          | inr by ↦ inr (inl begin, by.1)
        ])
  ]

  cases_from : (between : List ℕ) (from to : ℕ) → IsChain (pairs ++ pair ∷ []) (from ∷ between ++ to ∷ []) → LeadsBy from to
  cases_from [] from to chain = step_to from to to chain.0 (inl (inl refl))
  cases_from (next ∷ rest) from to chain = step_to from next to chain.0 (elim (cases_from rest next to chain.1) [
    | inl leads ↦ inl (inr leads)
    | inr by ↦ inr by
  ])

  pub leads-push : (from to : ℕ) → Leads (pairs ++ pair ∷ []) from to ↔ LeadsBy from to
  leads-push from to = (
    λ leads. cases_from leads.0 from to leads.1,
    λ by. elim by [
      | inl leads ↦ leads_more pairs (pair ∷ []) from to leads
      | inr by_pair ↦ leads_reaches (pairs ++ pair ∷ []) from pair.then to
          (reaches_leads (pairs ++ pair ∷ []) from pair.first pair.then (reaches_more pairs (pair ∷ []) from pair.first by_pair.0) (leads_by_one (pairs ++ pair ∷ []) pair.first pair.then (Contains-push pairs pair)))
          (reaches_more pairs (pair ∷ []) pair.then to by_pair.1)
    ],
  )

  -- a pair that tells nothing new
  pub leads_by_known : (from to : ℕ) → Leads pairs pair.first pair.then → LeadsBy from to → Leads pairs from to
  leads_by_known from to known (inl leads) = leads
  leads_by_known from to known (inr by) =
      reaches_leads pairs from pair.first to by.0 (leads_reaches pairs pair.first pair.then to known by.1)

  -- ---- cycles

  pub no_cycle-push : (HasCycle pairs → ⊥) → pair.first ≢ pair.then → (Leads pairs pair.then pair.first → ⊥) → HasCycle (pairs ++ pair ∷ []) → ⊥
  no_cycle-push none differ back cycle = elim ((leads-push cycle.scene cycle.scene).0 (cycle.between, cycle.returns)) [
    | inl leads ↦ none (record { scene = cycle.scene; between = leads.0; returns = leads.1 })
    | inr by ↦ elim (reaches_through pairs pair.then cycle.scene pair.first by.1 by.0) [
      | inl same ↦ differ (sym same)
      | inr leads ↦ back leads
    ]
  ]

  pub cycle-push : Leads pairs pair.then pair.first → HasCycle (pairs ++ pair ∷ [])
  cycle-push back =
      let round : Leads (pairs ++ pair ∷ []) pair.first pair.first
      = (leads-push pair.first pair.first).1 (inr (inl refl, inr back)) in
      record { scene = pair.first; between = round.0; returns = round.1 }
