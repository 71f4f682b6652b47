-- Vectors of four numbers, lane by lane.
use Rattle.std.proofs.Common.{◌≡◌, ℕ, ◌-◌, ◌^◌, ◌<◌, Bool, false, cond, ltb, max, List}
use Rattle.std.proofs.Common.{length, get_or, map, slice_index, sym, ap, ◌∙◌, inl, inr, arith, w32}
use Rattle.std.proofs.lemmas.Bool.{cases_lt, lt-ltb}
use Rattle.std.proofs.lemmas.Bool.Decides.{nat_tests}
use Rattle.std.proofs.lemmas.Simd.{tops_compared, length-zip2, length-sel_l, get_or-sel_l, get_or-zip2}
use lib.Lanes.{zip2, sel_l, top}
use mir.Val.{bits, hbits}

module _ (xs ys : List ℕ) (long : length xs ≡ 4) (also : length ys ≡ 4) where
  -- the greater of each two, by a comparison and a choice
  abbrev pub greater : List ℕ
  greater = sel_l (map (top (hbits w32)) (zip2 (λ a b. cond {A = ℕ} (ltb a b) (2 ^ bits w32 - 1) 0) xs ys)) ys xs

  tests : greater ≡ sel_l (zip2 ltb xs ys) ys xs
  tests = ap (λ ms. sel_l ms ys xs) (tops_compared w32 ltb xs ys)

  tests_long : length (zip2 ltb xs ys) ≡ 4
  tests_long = length-zip2 ltb xs ys (long ∙ sym also) ∙ long

  pub greater_lanes : length greater ≡ 4
  greater_lanes = ap length tests ∙ length-sel_l (zip2 ltb xs ys) ys xs (tests_long ∙ sym also) (tests_long ∙ sym long) ∙ tests_long

  pub greater_at : (i : ℕ) → i < 4 → slice_index greater i ≡ max (slice_index xs i) (slice_index ys i)
  greater_at i lt = ap (λ l. get_or l i 0) tests ∙ get_or-sel_l (zip2 ltb xs ys) ys xs i 0 (omega (arith, lt, tests_long)) (omega (arith, lt, also)) (omega (arith, lt, long))
      ∙ ap (λ t. cond t (get_or ys i 0) (get_or xs i 0)) (get_or-zip2 ltb xs ys i 0 0 false (omega (arith, lt, long)) (omega (arith, lt, also)))
      ∙ chosen (get_or xs i 0) (get_or ys i 0)
    where
      chosen : (a b : ℕ) → cond {A = ℕ} (ltb a b) b a ≡ max a b
      chosen a b = elim (cases_lt a b) [
        | inl less ↦ ap (λ (t : Bool). cond {A = ℕ} t b a) (lt-ltb a b less) ∙ omega (arith, less)
        | inr more ↦ (let not_less : ltb a b ≡ false = grind (arith, nat_tests) in ap (λ (t : Bool). cond {A = ℕ} t b a) not_less ∙ omega (arith, more))
      ]
