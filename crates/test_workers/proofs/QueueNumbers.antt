-- Lists of the numbers from 1 on, in which none stands twice.
use Rattle.std.proofs.Common.{◌≡◌, ℕ, ◌+◌, ◌<◌, ◌≤◌, List, [], ◌∷◌, ◌++◌, inl, inr, ap, arith}
use Rattle.std.proofs.lemmas.Bool.Decides.{eqb_tells}
use Rattle.strip_steal.specs.Rule.{times}
use Rattle.strip_steal.proofs.Numbers.{times-append, times-other, times-self}

-- no number stands in the list twice, and none above this one stands in it
abbrev pub AreUpTo : ℕ → List ℕ → Type 0
AreUpTo last numbers = ((number : ℕ) → times number numbers ≤ 1) × ((number : ℕ) → last < number → times number numbers ≡ 0)

pub up_to-more : (last next : ℕ) (numbers : List ℕ) → next ≡ last + 1 → AreUpTo last numbers → AreUpTo next (numbers ++ next ∷ [])
up_to-more last next numbers is are = (
  λ number. elim (eqb_tells next number) [
    | inl same ↦ omega (arith, times-append number numbers (next ∷ []), are.1 number (omega (arith, is, same.1)), ap (λ k. times k (next ∷ [])) same.1, times-self next)
    | inr other ↦ omega (arith, times-append number numbers (next ∷ []), are.0 number, times-other number next other.1)
  ],
  λ number above. omega (
    arith,
    times-append number numbers (next ∷ []),
    are.1 number (omega (arith, is, above)),
    times-other number next (λ same. omega (arith, same, above)),
  ),
)
