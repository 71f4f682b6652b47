-- Greedy lists.
use Rattle.std.proofs.Common.{◌≡◌, ℕ, true, false, List, [], ◌∷◌, ◌++◌, inl, inr, refl, sym, subst, arith}
use Rattle.strip_mask.specs.Set.{has, without}
use Rattle.strip_mask.proofs.ByMembers.{has-empty}
use Rattle.strip_model.specs.Film.{FilmData}
use Rattle.strip_film.specs.Finish.{EachOnce, rest_after}
use Rattle.strip_film.proofs.Lists.{ready_there}
use Rattle.strip_start.specs.Greedy.{HaveLeastSteps, IsLeastStep}

module _ (film : FilmData) where
  -- a set has one scene with the least step
  one_least : (set a b : ℕ) → IsLeastStep film set a → IsLeastStep film set b → a ≡ b
  one_least set a b one other = elim (one.least b other.is_ready) [
    | inl less ↦ elim (other.least a one.is_ready) [
      | inl more ↦ absurd (omega (arith, less, more))
      | inr same ↦ absurd (omega (arith, less, same.0))
    ]
    | inr same ↦ elim (other.least a one.is_ready) [
      | inl more ↦ absurd (omega (arith, same.0, more))
      | inr also ↦ omega (arith, same.1, also.1)
    ]
  ]

  none_of_none : (set scene : ℕ) → set ≡ 0 → IsLeastStep film set scene → ⊥
  none_of_none set scene none least =
      let there : has 0 scene ≡ true = subst (λ (q : ℕ). has q scene ≡ true) none (ready_there film set scene least.is_ready) in
      let out : has 0 scene ≡ false = has-empty scene in
      cc

  pub one_greedy : (set : ℕ) (a b : List ℕ) → HaveLeastSteps film set a → HaveLeastSteps film set b
      → EachOnce film set a → EachOnce film set b → a ≡ b
  one_greedy set [] [] one other each also = refl
  one_greedy set [] (y ∷ b) one other each also = absurd (none_of_none set y each.1 other.0)
  one_greedy set (x ∷ a) [] one other each also = absurd (none_of_none set x also.1 one.0)
  one_greedy set (x ∷ a) (y ∷ b) one other each also =
      let same : y ≡ x = one_least set y x other.0 one.0 in
      let rest : a ≡ b = one_greedy (without set x) a b one.1 (subst (λ (s : ℕ). HaveLeastSteps film (without set s) b) same other.1)
      (each.0.1, each.1) (subst (λ (s : ℕ). EachOnce film (without set s) b) same (also.0.1, also.1)) in
      λ i. sym same i ∷ rest i

  -- one scene with the least step more
  pub greedy_more : (set scene : ℕ) (scenes : List ℕ) → HaveLeastSteps film set scenes → IsLeastStep film (rest_after set scenes) scene
      → HaveLeastSteps film set (scenes ++ scene ∷ [])
  greedy_more set scene [] so_far least = (least, tt)
  greedy_more set scene (x ∷ scenes) so_far least = (so_far.0, greedy_more (without set x) scene scenes so_far.1 least)
