-- Counts over several calls.
use Rattle.std.proofs.Common.{◌≡◌, ◌≢◌, ℕ, ◌+◌, ◌-◌, ◌^◌, ◌≤◌, min, Bool, List, inl, inr, refl, sym, ◌∙◌, subst, arith}
use Rattle.strip_io.specs.Counts.{Rose, CountsOnly, CameOnly, ReadFailed}

-- one call more
pub counts_on : (name : List ℕ) (a b c : List ℕ → ℕ) → CountsOnly name a b → CountsOnly name b c → CountsOnly name a c
counts_on name a b c first next = record {
  later = omega (arith, first.later, next.later);
  others = λ other differs. next.others other differs ∙ first.others other differs;
}

-- a count that stays
pub counts_stay : (name : List ℕ) (a : List ℕ → ℕ) → CountsOnly name a a
counts_stay name a = record { later = omega arith; others = λ other differs. refl }

pub counts_same : (name : List ℕ) (a b : List ℕ → ℕ) → b ≡ a → CountsOnly name a b
counts_same name a b same = subst (λ (now : List ℕ → ℕ). CountsOnly name a now) (sym same) (counts_stay name a)

-- a rise at the end of a run is a rise over it
pub rose_since : (a b c : ℕ) → a ≤ b → Rose b c → Rose a c
rose_since a b c le rose = omega arith

pub failed_since : (name : List ℕ) (was held : List ℕ → Bool) (a b c : List ℕ → ℕ) → CountsOnly name a b → held ≡ was → ReadFailed name held b c → ReadFailed name was a c
failed_since name was held a b c counts same failed = elim failed [
  | inl rose ↦ inl (rose_since (a name) (b name) (c name) counts.later rose)
  | inr out ↦ inr (cc)
]

-- n bytes of the name came so far: they and any more that will come count alike
pub record CameSoFar (name : List ℕ) (n : ℕ) (before now : List ℕ → ℕ) : Type 0 where
  pub here : (more : ℕ) → min (now name + more) (2 ^ 64 - 1) ≡ min (before name + (n + more)) (2 ^ 64 - 1)
  pub others : (other : List ℕ) → other ≢ name → now other ≡ before other

pub none_so_far : (name : List ℕ) (n : ℕ) (a : List ℕ → ℕ) → n ≡ 0 → CameSoFar name n a a
none_so_far name n a none = record {
  here = λ more. omega arith;
  others = λ other differs. refl;
}

pub came_all : (name : List ℕ) (n k : ℕ) (a b c : List ℕ → ℕ) → CameSoFar name n a b → CameOnly name k b c → CameOnly name (n + k) a c
came_all name n k a b c first next = record {
  here = next.here ∙ first.here k;
  others = λ other differs. next.others other differs ∙ first.others other differs;
}

pub came_more : (name : List ℕ) (n k : ℕ) (a b c : List ℕ → ℕ) → CameSoFar name n a b → CameOnly name k b c → CameSoFar name (n + k) a c
came_more name n k a b c first next = record {
  here = λ more.
      let both = next.here in
      let along = first.here (k + more) in
      omega arith;
  others = λ other differs. next.others other differs ∙ first.others other differs;
}
