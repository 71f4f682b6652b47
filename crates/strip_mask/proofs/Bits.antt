-- The tests of one bit, by which the laws of sets follow.
use Rattle.std.proofs.Common.{◌≡◌, ◌≢◌, ℕ, ◌+◌, ◌-◌, ◌%◌, ◌^◌, ◌<◌, ◌⊎◌, min, max, true, false, not, ◌&&◌, ◌||◌, eqb, sym, subst, ◌∙◌, inl, inr, arith, refl}
use Rattle.std.specs.Int.{bit_at}
use Rattle.std.proofs.lemmas.Nat.Bits.{bit_at-pow_same, bit_at-pow_other}
use Rattle.std.proofs.lemmas.Bool.Decides.{nat_tests, eqb_tells}
use Rattle.strip_mask.specs.Set.{has}

-- a number below 2 is 0 or 1
pub cases_bit : (x : ℕ) → x < 2 → (x ≡ 0) ⊎ (x ≡ 1)
cases_bit x small = elim (eqb_tells x 0) [ inl is ↦ inl is.1 | inr is_not ↦ inr (omega (arith, is_not.1)) ]

-- what the tests of two bits say of their greater
pub or_test : (x y : ℕ) → x < 2 → y < 2 → eqb (max x y) 1 ≡ (eqb x 1 || eqb y 1)
or_test x y p q = elim (cases_bit x p) [ inl e ↦ elim (cases_bit y q) [ inl f ↦ rw (e, f) | inr f ↦ rw (e, f) ] | inr e ↦ elim (cases_bit y q) [ inl f ↦ rw (e, f) | inr f ↦ rw (e, f) ] ]

-- of their lesser
pub and_test : (x y : ℕ) → x < 2 → y < 2 → eqb (min x y) 1 ≡ (eqb x 1 && eqb y 1)
and_test x y p q = elim (cases_bit x p) [ inl e ↦ elim (cases_bit y q) [ inl f ↦ rw (e, f) | inr f ↦ rw (e, f) ] | inr e ↦ elim (cases_bit y q) [ inl f ↦ rw (e, f) | inr f ↦ rw (e, f) ] ]

-- of the first bit without the second
pub minus_test : (x y : ℕ) → x < 2 → y < 2 → eqb ((x + min x y) % 2) 1 ≡ (eqb x 1 && not (eqb y 1))
minus_test x y p q = elim (cases_bit x p) [ inl e ↦ elim (cases_bit y q) [ inl f ↦ rw (e, f) | inr f ↦ rw (e, f) ] | inr e ↦ elim (cases_bit y q) [ inl f ↦ rw (e, f) | inr f ↦ rw (e, f) ] ]

-- and of the first with the second turned
pub not_test : (x y : ℕ) → x < 2 → y < 2 → eqb (min x (1 - y)) 1 ≡ (eqb x 1 && not (eqb y 1))
not_test x y p q = elim (cases_bit x p) [ inl e ↦ elim (cases_bit y q) [ inl f ↦ rw (e, f) | inr f ↦ rw (e, f) ] | inr e ↦ elim (cases_bit y q) [ inl f ↦ rw (e, f) | inr f ↦ rw (e, f) ] ]

-- bits with the same test are equal
pub same_bit : (x y : ℕ) → x < 2 → y < 2 → eqb x 1 ≡ eqb y 1 → x ≡ y
same_bit x y p q e = grind (arith, nat_tests)

-- `has` is the test of a bit
pub has_is : (a i : ℕ) → has a i ≡ eqb (bit_at a i) 1
unfolding has
has_is a i = refl

-- the numbers of a power of two: its exponent alone
pub has-pow : (i j : ℕ) → has (2 ^ i) j ≡ eqb i j
has-pow i j = has_is (2 ^ i) j ∙ elim (eqb_tells i j) [
  | inl is ↦ (let P : ℕ → Type 0 = λ n. bit_at (2 ^ i) n ≡ 1 in let e : bit_at (2 ^ i) j ≡ 1 = subst P is.1 (bit_at-pow_same i) in rw e (sym is.0))
  | inr is_not ↦ (let other : j ≢ i = λ e. is_not.1 (sym e) in rw (bit_at-pow_other i j other) (sym is_not.0))
]

-- a bit that is set is a member
pub has_from_bit : (a i : ℕ) → bit_at a i ≡ 1 → has a i ≡ true
has_from_bit a i e = has_is a i ∙ (rw e)

-- and a bit that is not set
pub has_not_from_bit : (a i : ℕ) → bit_at a i ≡ 0 → has a i ≡ false
has_not_from_bit a i e = has_is a i ∙ (rw e)
