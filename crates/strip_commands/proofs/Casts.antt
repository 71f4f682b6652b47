-- The cast that is drawn, actor by actor.
use Rattle.std.proofs.Common.{◌≡◌, ◌<◌, ℕ, zero, suc, ◌+◌, Bool, true, false, true≢false, ◌&&◌, ◌||◌, nat_lt, eqb, if◌then◌else◌, refl, sym, ap, ◌∙◌, arith}
use Rattle.rand_pcg.specs.Lcg.{Lcg}
use Rattle.std.proofs.lemmas.Bool.{eqb-true}
use Rattle.std.proofs.lemmas.Bool.Decides.{nat_tests}
use Rattle.strip_mask.specs.Set.{LiesBelow, has, with}
use Rattle.strip_mask.proofs.ByMembers.{has-empty, has-with}
use Rattle.strip_commands.specs.Generated.{cast_of, works_in}

pub cast-none : (generator : Lcg) → cast_of generator 0 ≡ 0
unfolding cast_of
cast-none generator = refl

pub cast-more : (generator : Lcg) (n : ℕ) → cast_of generator (n + 1) ≡ (if works_in generator n then with (cast_of generator n) n else cast_of generator n)
unfolding cast_of
cast-more generator n = ap (cast_of generator) (let e : n + 1 ≡ suc n = omega arith in e)

-- an actor who works comes into the cast, and another doesn't
pub cast-with : (generator : Lcg) (n cast new : ℕ) → works_in generator n ≡ true → cast ≡ cast_of generator n → new ≡ with cast n → new ≡ cast_of generator (n + 1)
cast-with generator n cast new works is made =
    made ∙ ap (λ (set : ℕ). with set n) is
    ∙ sym (cast-more generator n ∙ ap (λ (b : Bool). if b then with (cast_of generator n) n else cast_of generator n) works)

pub cast-without : (generator : Lcg) (n cast new : ℕ) → works_in generator n ≡ false → cast ≡ cast_of generator n → new ≡ cast → new ≡ cast_of generator (n + 1)
cast-without generator n cast new works is made =
    made ∙ is ∙ sym (cast-more generator n ∙ ap (λ (b : Bool). if b then with (cast_of generator n) n else cast_of generator n) works)

-- another actor is one of the first as before
still : (n actor : ℕ) → eqb n actor ≡ false → nat_lt actor n ≡ nat_lt actor (suc n)
still n actor other = grind (arith, nat_tests, other)

last : (n actor : ℕ) → eqb n actor ≡ true → nat_lt actor (suc n) ≡ true
last n actor same = grind (arith, nat_tests, same)

not_before : (n actor : ℕ) → eqb n actor ≡ true → nat_lt actor n ≡ false
not_before n actor same = grind (arith, nat_tests, same)

and_false : (b : Bool) → (b && false) ≡ false
and_false true = refl
and_false false = refl

both : (a b x y : Bool) → a ≡ x → b ≡ y → (a && b) ≡ (x && y)
both a b x y one two = ap (λ (c : Bool). c && b) one ∙ ap (λ (c : Bool). x && c) two

module _ (generator : Lcg) (n actor : ℕ) (before : has (cast_of generator n) actor ≡ (nat_lt actor n && works_in generator actor)) where
  at_works : eqb n actor ≡ true → works_in generator n ≡ works_in generator actor
  at_works same = ap (works_in generator) (eqb-true n actor same)

  after_with : (same : Bool) → eqb n actor ≡ same → works_in generator n ≡ true
      → has (with (cast_of generator n) n) actor ≡ (nat_lt actor (suc n) && works_in generator actor)
  after_with true same works =
      has-with (cast_of generator n) n actor ∙ ap (λ (b : Bool). b || has (cast_of generator n) actor) same
      ∙ sym (both (nat_lt actor (suc n)) (works_in generator actor) true true (last n actor same) (sym (at_works same) ∙ works))
  after_with false same works =
      has-with (cast_of generator n) n actor ∙ ap (λ (b : Bool). b || has (cast_of generator n) actor) same
      ∙ before ∙ ap (λ (b : Bool). b && works_in generator actor) (still n actor same)

  after_without : (same : Bool) → eqb n actor ≡ same → works_in generator n ≡ false
      → has (cast_of generator n) actor ≡ (nat_lt actor (suc n) && works_in generator actor)
  after_without true same works =
      before ∙ ap (λ (b : Bool). b && works_in generator actor) (not_before n actor same)
      ∙ sym (ap (λ (b : Bool). nat_lt actor (suc n) && b) (sym (at_works same) ∙ works) ∙ and_false (nat_lt actor (suc n)))
  after_without false same works = before ∙ ap (λ (b : Bool). b && works_in generator actor) (still n actor same)

  one_more : (works : Bool) → works_in generator n ≡ works → has (cast_of generator (n + 1)) actor ≡ (nat_lt actor (suc n) && works_in generator actor)
  one_more true works =
      ap (λ (set : ℕ). has set actor) (cast-more generator n ∙ ap (λ (b : Bool). if b then with (cast_of generator n) n else cast_of generator n) works)
      ∙ after_with (eqb n actor) refl works
  one_more false works =
      ap (λ (set : ℕ). has set actor) (cast-more generator n ∙ ap (λ (b : Bool). if b then with (cast_of generator n) n else cast_of generator n) works)
      ∙ after_without (eqb n actor) refl works

-- an actor is in the cast where he is one of the first and his word says so
pub cast-has : (generator : Lcg) (n actor : ℕ) → has (cast_of generator n) actor ≡ (nat_lt actor n && works_in generator actor)
cast-has generator zero actor = rw (cast-none generator) (has-empty actor ∙ grind (arith, nat_tests))
cast-has generator (suc n) actor =
    ap (λ (k : ℕ). has (cast_of generator k) actor) (let e : suc n ≡ n + 1 = omega arith in e)
    ∙ one_more generator n actor (cast-has generator n actor) (works_in generator n) refl

pub cast_lies : (generator : Lcg) (n : ℕ) → LiesBelow n (cast_of generator n)
cast_lies generator n actor in_it = below (nat_lt actor n) refl
  where
    below : (b : Bool) → nat_lt actor n ≡ b → actor < n
    below true is = grind (arith, nat_tests, is)
    below false is = absurd (true≢false (sym in_it ∙ cast-has generator n actor ∙ ap (λ (b : Bool). b && works_in generator actor) is))
