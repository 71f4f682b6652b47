-- The numbers below one are an order.
use Rattle.std.proofs.Common.{◌≡◌, ◌∙◌, ◌<◌, ◌≤◌, ℕ, zero, suc, ◌+◌, List, [], ◌∷◌, ◌++◌, length, All, refl, sym, ap, subst, inl, inr, arith}
use Rattle.std.proofs.lemmas.List.{length-map}
use Rattle.std.proofs.lemmas.Bool.{cases_eq}
use Rattle.std.proofs.lemmas.List.Elements.{All-append, All-cons, All-nil}
use Rattle.strip_mask.specs.Set.{numbers_below}
use Rattle.strip_mask.proofs.Lists.{count, count-append, count_here, count_other}
use Rattle.strip_model.specs.Order.{IsOrder}
use Rattle.strip_model.specs.Data.{InstanceData}
use Rattle.strip_model.specs.FilmOf.{film_of}
use Rattle.strip_solve.specs.Own.{own_order}

lie_below : (most n : ℕ) → n ≤ most → All (λ scene. scene < most) (numbers_below n)
unfolding numbers_below
lie_below most zero few = All-nil (λ scene. scene < most)
lie_below most (suc n) few =
    All-append (λ scene. scene < most) (numbers_below n) (n ∷ []) (lie_below most n (omega (arith, few)))
    (All-cons (λ scene. scene < most) n [] (omega (arith, few)) (All-nil (λ scene. scene < most)))

none_below : (x n : ℕ) → n ≤ x → count x (numbers_below n) ≡ 0
unfolding numbers_below
none_below x zero low = refl
none_below x (suc n) low =
    omega (arith, count-append x (numbers_below n) (n ∷ []), none_below x n (omega (arith, low)), count_other x n [] (λ same. omega (arith, low, same)))

once_below : (x n : ℕ) → x < n → count x (numbers_below n) ≡ 1
unfolding numbers_below
once_below x zero within = absurd (omega (arith, within))
once_below x (suc n) within = elim (cases_eq n x) [
  | inl same ↦ (let here : count x (n ∷ []) ≡ 1 = rw (same) (count_here x []) in
      omega (arith, count-append x (numbers_below n) (n ∷ []), none_below x n (omega (arith, same)), here))
  | inr other ↦ omega (arith, count-append x (numbers_below n) (n ∷ []), once_below x n (omega (arith, within, other)), count_other x n [] other)
]

pub numbers_order : (n : ℕ) → IsOrder n (numbers_below n)
numbers_order n = record {
  known = lie_below n n (omega arith);
  once = λ scene within. once_below scene n within;
}

pub numbers_none : [] ≡ numbers_below 0
unfolding numbers_below
numbers_none = refl

numbers_suc : (n : ℕ) → numbers_below (suc n) ≡ numbers_below n ++ n ∷ []
unfolding numbers_below
numbers_suc n = refl

pub numbers_more : (n : ℕ) → numbers_below (n + 1) ≡ numbers_below n ++ n ∷ []
numbers_more n = ap numbers_below (let next : n + 1 ≡ suc n = omega arith in next) ∙ numbers_suc n

-- the numbers of an instance's scenes are the order of its rows
pub rows_of : (inst : InstanceData) (count : ℕ) (items : List ℕ) → count ≡ length inst.scenes → items ≡ numbers_below count → items ≡ own_order (film_of inst)
rows_of inst count items same is = is ∙ ap numbers_below (same ∙ sym (length-map inst.scenes (λ s. s.cast)))

-- which is an order of them
pub rows_order : (inst : InstanceData) (items : List ℕ) → items ≡ own_order (film_of inst) → IsOrder (length inst.scenes) items
rows_order inst items is =
    subst (λ n. IsOrder n items) (length-map inst.scenes (λ s. s.cast))
    (subst (IsOrder (length (film_of inst).casts)) (sym is) (numbers_order (length (film_of inst).casts)))
