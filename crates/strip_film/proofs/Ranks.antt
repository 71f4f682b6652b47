-- The order of scenes by rank, and of paths, is total.
use Rattle.std.proofs.Common.{◌≡◌, ◌≢◌, ℕ, List, [], ◌∷◌, ◌++◌, ◌⊎◌, inl, inr, refl, sym, ap, ◌∙◌, subst, arith}
use Rattle.std.proofs.lemmas.Bool.{cases_lt}
use Rattle.strip_mask.specs.Set.{without}
use Rattle.strip_model.specs.Order.{IsBefore}
use Rattle.strip_film.specs.Shoot.{step_cost}
use Rattle.strip_film.specs.Finish.{rest_after}
use Rattle.strip_film.specs.Ranks.{IsSooner, IsEarlier}
use Rattle.strip_film.specs.Rules.{Rules, rank}

module _ (ranks : ℕ → ℕ) where
  pub sooner-itself : (s : ℕ) → IsSooner ranks s s → ⊥
  sooner-itself s sooner = elim sooner [ inl less ↦ omega arith | inr (same, less) ↦ omega arith ]

  pub sooner_trans : (s t u : ℕ) → IsSooner ranks s t → IsSooner ranks t u → IsSooner ranks s u
  sooner_trans s t u (inl less) (inl more) = inl (omega (arith, less, more))
  sooner_trans s t u (inl less) (inr (same, more)) = inl (omega (arith, less, same))
  sooner_trans s t u (inr (same, less)) (inl more) = inl (omega (arith, same, more))
  sooner_trans s t u (inr (same, less)) (inr (tie, more)) = inr (same ∙ tie, omega (arith, less, more))

  -- of two scenes one goes before the other, or they are the same
  pub sooner_total : (s t : ℕ) → IsSooner ranks s t ⊎ ((s ≡ t) ⊎ IsSooner ranks t s)
  sooner_total s t = elim (cases_lt (ranks s) (ranks t)) [
    | inl less ↦ inl (inl less)
    | inr more ↦ elim (cases_lt (ranks t) (ranks s)) [
      | inl greater ↦ inr (inr (inl greater))
      | inr same ↦ (let e : ranks s ≡ ranks t = omega (arith, more, same) in elim (cases_lt s t) [
        | inl less ↦ inl (inr (e, less))
        | inr no_less ↦ elim (cases_lt t s) [
          | inl greater ↦ inr (inr (inr (sym e, greater)))
          | inr no_more ↦ inr (inl (omega (arith, no_less, no_more)))
        ]
      ])
    ]
  ]

-- what goes first by some ranks does so by others that are the same of both scenes
pub sooner_by : (ranks due : ℕ → ℕ) (s t : ℕ) → ranks s ≡ due s → ranks t ≡ due t → IsSooner ranks s t → IsSooner due s t
sooner_by ranks due s t here there (inl less) = inl (omega (arith, here, there, less))
sooner_by ranks due s t here there (inr (same, less)) = inr (sym here ∙ same ∙ there, less)

module _ (rules : Rules) where
  pub earlier-itself : (set : ℕ) (xs : List ℕ) → IsEarlier rules set xs xs → ⊥
  earlier-itself set [] earlier = earlier
  earlier-itself set (x ∷ xs) earlier = elim earlier [
    | inl sooner ↦ sooner-itself (rank rules set) x sooner
    | inr (same, rest) ↦ earlier-itself (without set x) xs rest
  ]

  pub earlier_trans : (set : ℕ) (xs ys zs : List ℕ) → IsEarlier rules set xs ys → IsEarlier rules set ys zs → IsEarlier rules set xs zs
  earlier_trans set xs ys [] first second = absurd second
  earlier_trans set xs [] (z ∷ zs) first second = absurd first
  earlier_trans set [] (y ∷ ys) (z ∷ zs) first second = tt
  earlier_trans set (x ∷ xs) (y ∷ ys) (z ∷ zs) (inl sooner) (inl next) = inl (sooner_trans (rank rules set) x y z sooner next)
  earlier_trans set (x ∷ xs) (y ∷ ys) (z ∷ zs) (inl sooner) (inr (same, rest)) = inl (subst (IsSooner (rank rules set) x) same sooner)
  earlier_trans set (x ∷ xs) (y ∷ ys) (z ∷ zs) (inr (same, rest)) (inl next) =
      inl (subst (λ (s : ℕ). IsSooner (rank rules set) s z) (sym same) next)
  earlier_trans set (x ∷ xs) (y ∷ ys) (z ∷ zs) (inr (same, rest)) (inr (tie, later)) =
      inr (same ∙ tie, earlier_trans (without set x) xs ys zs rest (subst (λ (s : ℕ). IsEarlier rules (without set s) ys zs) (sym same) later))

  -- one list comes before the other, or they are equal
  pub earlier_total : (set : ℕ) (xs ys : List ℕ) → IsEarlier rules set xs ys ⊎ ((xs ≡ ys) ⊎ IsEarlier rules set ys xs)
  earlier_total set [] [] = inr (inl refl)
  earlier_total set [] (y ∷ ys) = inl tt
  earlier_total set (x ∷ xs) [] = inr (inr tt)
  earlier_total set (x ∷ xs) (y ∷ ys) = elim (sooner_total (rank rules set) x y) [
    | inl sooner ↦ inl (inl sooner)
    | inr other ↦ elim other [
      | inl same ↦ elim (earlier_total (without set x) xs ys) [
        | inl earlier ↦ inl (inr (same, earlier))
        | inr rest ↦ elim rest [
          | inl tie ↦ inr (inl (ap (λ (z : ℕ). z ∷ xs) same ∙ ap (λ (zs : List ℕ). y ∷ zs) tie))
          | inr later ↦ inr (inr (inr (sym same, subst (λ (s : ℕ). IsEarlier rules (without set s) ys xs) same later)))
        ]
      ]
      | inr later ↦ inr (inr (inl later))
    ]
  ]

  -- a list comes before what goes on from it
  pub earlier_longer : (set : ℕ) (xs : List ℕ) (t : ℕ) (ts : List ℕ) → IsEarlier rules set xs (xs ++ t ∷ ts)
  earlier_longer set [] t ts = tt
  earlier_longer set (x ∷ xs) t ts = inr (refl, earlier_longer (without set x) xs t ts)

  -- and what goes on from it doesn't come before it
  pub longer_not_earlier : (set : ℕ) (xs rest : List ℕ) → IsEarlier rules set (xs ++ rest) xs → ⊥
  longer_not_earlier set [] rest earlier = earlier
  longer_not_earlier set (x ∷ xs) rest earlier = elim earlier [
    | inl sooner ↦ sooner-itself (rank rules set) x sooner
    | inr (same, later) ↦ longer_not_earlier (without set x) xs rest later
  ]

  -- lists that part keep their order however they go on
  pub earlier_parted : (set : ℕ) (begun : List ℕ) (s : ℕ) (xs : List ℕ) (t : ℕ) (ys : List ℕ)
      → IsSooner (rank rules (rest_after set begun)) s t → IsEarlier rules set (begun ++ s ∷ xs) (begun ++ t ∷ ys)
  earlier_parted set [] s xs t ys sooner = inl sooner
  earlier_parted set (b ∷ begun) s xs t ys sooner = inr (refl, earlier_parted (without set b) begun s xs t ys sooner)

  -- their order is that of the scenes where they part
  pub sooner_parted : (set : ℕ) (begun : List ℕ) (s : ℕ) (xs : List ℕ) (t : ℕ) (ys : List ℕ) → s ≢ t
      → IsEarlier rules set (begun ++ s ∷ xs) (begun ++ t ∷ ys) → IsSooner (rank rules (rest_after set begun)) s t
  sooner_parted set [] s xs t ys apart earlier = elim earlier [ inl sooner ↦ sooner | inr (same, _) ↦ absurd (apart same) ]
  sooner_parted set (b ∷ begun) s xs t ys apart earlier = elim earlier [
    | inl sooner ↦ absurd (sooner-itself (rank rules set) b sooner)
    | inr (_, later) ↦ sooner_parted (without set b) begun s xs t ys apart later
  ]

  -- where all ranks are equal, lists come by number
  module _ (equal : (paid set : ℕ) → rules.promise paid set ≡ 0) where
    pub earlier_by_number : (set : ℕ) (xs ys : List ℕ) → IsEarlier rules set xs ys → IsBefore xs ys
    earlier_by_number set xs [] earlier = absurd earlier
    earlier_by_number set [] (y ∷ ys) earlier = tt
    earlier_by_number set (x ∷ xs) (y ∷ ys) earlier = elim earlier [
      | inl sooner ↦ elim sooner [
        | inl less ↦ absurd (omega (arith, less, equal (step x) (without set x), equal (step y) (without set y)))
        | inr (_, less) ↦ inl less
      ]
      | inr (same, rest) ↦ inr (same, earlier_by_number (without set x) xs ys rest)
    ]
      where
        step : ℕ → ℕ
        step s = step_cost rules.film set s

    pub by_number_earlier : (set : ℕ) (xs ys : List ℕ) → IsBefore xs ys → IsEarlier rules set xs ys
    by_number_earlier set xs [] before = absurd before
    by_number_earlier set [] (y ∷ ys) before = tt
    by_number_earlier set (x ∷ xs) (y ∷ ys) before = elim before [
      | inl less ↦ inl (inr (equal (step_cost rules.film set x) (without set x) ∙ sym (equal (step_cost rules.film set y) (without set y)), less))
      | inr (same, rest) ↦ inr (same, by_number_earlier (without set x) xs ys rest)
    ]
