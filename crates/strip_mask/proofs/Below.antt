-- All numbers below a limit, and sets of such numbers.
use Rattle.std.proofs.Common.{◌≡◌, ◌↔◌, ℕ, zero, suc, ◌+◌, ◌<◌, ◌≤◌, Bool, true, false, not, ◌&&◌, ltb, inl, inr, refl, sym, ap, ◌∙◌, subst, arith, add-one}
pub use Rattle.std.proofs.lemmas.Bool.{and_from as and_true}
use Rattle.std.proofs.lemmas.Bool.{cases_lt, le-ltb, lt-ltb, ltb-true}
use Rattle.std.proofs.lemmas.Bool.Decides.{nat_tests}
use Rattle.strip_mask.specs.Set.{IsSet, has, with, without, meet, minus, size, full, LiesBelow}
use Rattle.strip_mask.proofs.ByMembers.{has-with, has-meet, has-minus, has-empty, has_from_minus, has_from_without, empty_from, IsSet-empty, IsSet-with, IsSet-meet_right, same_has}
use Rattle.strip_mask.proofs.Sizes.{size-empty, size-with}
use Rattle.strip_mask.proofs.Agree.{and_implied}

pub full-zero : full 0 ≡ 0
unfolding full
full-zero = refl

full-suc : (n : ℕ) → full (suc n) ≡ with (full n) n
unfolding full
full-suc n = refl

pub full-more : (n : ℕ) → full (n + 1) ≡ with (full n) n
full-more n = rw add-one (full-suc n)

pub has-full : (n i : ℕ) → has (full n) i ≡ ltb i n
has-full zero i = rw full-zero (has-empty i ∙ grind (arith, nat_tests))
has-full (suc n) i = rw (full-suc n) (has-with (full n) n i ∙ (let rest : has (full n) i ≡ ltb i n = has-full n i in rw rest (grind (arith, nat_tests))))

-- a number below n is in the set of all of them
pub has_full : (n i : ℕ) → i < n → has (full n) i ≡ true
has_full n i lt = has-full n i ∙ lt-ltb i n lt

pub LiesBelow-full : (n : ℕ) → LiesBelow n (full n)
LiesBelow-full n i member = ltb-true i n (sym (has-full n i) ∙ member)

pub IsSet-full : (n : ℕ) → n ≤ 64 → IsSet (full n)
IsSet-full zero small = rw full-zero IsSet-empty
IsSet-full (suc n) small = rw (full-suc n) (IsSet-with (full n) n (IsSet-full n (omega arith)) (omega arith))

-- a set of numbers below 64 is a mask of 64 bits
pub is_set_below : (n set : ℕ) → n ≤ 64 → LiesBelow n set → IsSet set
is_set_below n set small lies =
    subst IsSet (sym (same_has set (meet set (full 64)) (λ i. and_implied (has set i) (ltb i 64) (λ there. lt-ltb i 64 (below i there)) ∙ sym (has-meet set (full 64) i ∙ ap (λ (b : Bool). has set i && b) (has-full 64 i)))))
    (IsSet-meet_right set (full 64) (IsSet-full 64 (omega arith)))
  where
    below : (i : ℕ) → has set i ≡ true → i < 64
    below i there = let limit : i < n = lies i there in omega (arith, small, limit)

-- a set lies below n where nothing is left of it without the numbers below n
pub lies_by_minus : (n set : ℕ) → (minus set (full n) ≡ 0) ↔ LiesBelow n set
lies_by_minus n set = (
  λ none i there. elim (cases_lt i n) [
    | inl below ↦ below
    | inr past ↦ absurd (let out : ltb i n ≡ false = grind (arith, nat_tests) in
        let left : has (minus set (full n)) i ≡ true = has-minus set (full n) i ∙ and_true (has set i) (not (has (full n) i)) there (ap not (has-full n i ∙ out)) in
        let gone : has (minus set (full n)) i ≡ false = subst (λ (q : ℕ). has q i ≡ false) (sym none) (has-empty i) in
        cc)
  ],
  λ lies. empty_from (minus set (full n)) (λ i. has-minus set (full n) i ∙ ap (λ (b : Bool). has set i && not b) (has-full n i) ∙ outside (has set i) (ltb i n) (λ there. lt-ltb i n (lies i there))),
)
  where
    outside : (a b : Bool) → (a ≡ true → b ≡ true) → (a && not b) ≡ false
    outside true b within = ap not (within refl)
    outside false b within = refl

pub LiesBelow-minus : (n a b : ℕ) → LiesBelow n a → LiesBelow n (minus a b)
LiesBelow-minus n a b lies i there = lies i (has_from_minus a b i there).0

pub LiesBelow-without : (n set s : ℕ) → LiesBelow n set → LiesBelow n (without set s)
LiesBelow-without n set s lies i there = lies i (has_from_without set s i there).1

-- there are n numbers below n
pub size-full : (n : ℕ) → n ≤ 64 → size (full n) ≡ n
size-full zero le = ap size full-zero ∙ size-empty
size-full (suc n) le =
    let more : suc n ≡ n + 1 = omega arith in
    let past : has (full n) n ≡ false = has-full n n ∙ le-ltb n n (omega arith) in
    let before : size (full n) ≡ n = size-full n (omega (arith, le)) in
    ap size (ap full more ∙ full-more n) ∙ size-with (full n) n (omega (arith, le)) past ∙ omega (arith, before)
