-- The least number of a loop over scenes.
use Rattle.std.proofs.Common.{ℕ, ◌≤◌, min, List, [], ◌∷◌, ◌++◌, Contains, inl, inr, sym, subst, arith}
use Rattle.std.proofs.lemmas.List.Elements.{Contains-append_left, Contains-push, Contains-push_cases}

-- a number is at most what each scene of a list reaches, by any relation of scenes and what they reach
abbrev pub MostOf : (ℕ → ℕ → Type 0) → List ℕ → ℕ → Type 0
MostOf Reaches scenes number = (scene reach : ℕ) → Contains scenes scene → Reaches scene reach → number ≤ reach

module _ (Reaches : ℕ → ℕ → Type 0) (scenes : List ℕ) (scene least reach : ℕ) where
  pub most_more : MostOf Reaches scenes least → ((other : ℕ) → Reaches scene other → reach ≤ other) → MostOf Reaches (scenes ++ scene ∷ []) (min least reach)
  most_more most here s other there reaches = elim (Contains-push_cases scenes scene s there) [
    | inl old ↦ omega (arith, most s other old reaches)
    | inr new ↦ omega (arith, here other (subst (λ (i : ℕ). Reaches i other) (sym new) reaches))
  ]

  pub least_more : Reaches scene reach → (value : ℕ) → (MostOf Reaches scenes value → value ≤ least) → MostOf Reaches (scenes ++ scene ∷ []) value → value ≤ min least reach
  least_more here value old all =
      omega (arith, old (λ s other there reaches. all s other (Contains-append_left scenes (scene ∷ []) s there) reaches), all scene reach (Contains-push scenes scene) here)
