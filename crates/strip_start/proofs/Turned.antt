-- What an order costs when two scenes that are shot one after the other change places.
use Rattle.std.proofs.Common.{◌≡◌, ℕ, ◌+◌, ◌*◌, Bool, true, false, not, ◌&&◌, ◌||◌, List, [], ◌∷◌, ◌++◌, slice_index, refl, sym, ap, ◌∙◌, subst, append_assoc, arith}
use Rattle.std.proofs.Math.Nat.{mul-add}
use Rattle.std.proofs.Math.Bool.{and-false}
use Rattle.strip_mask.specs.Set.{has, union, meet, minus, without, sum_over}
use Rattle.strip_mask.proofs.ByMembers.{has-union, has-meet, has-minus, has_from_meet, has_from_minus, same_has, without_swap}
use Rattle.strip_mask.proofs.Totals.{sum_over-union}
use Rattle.strip_model.specs.Film.{FilmData}
use Rattle.strip_film.specs.Film.{IsFilm, all_scenes}
use Rattle.strip_film.specs.Finish.{rest_after, steps_cost}
use Rattle.strip_film.specs.Shoot.{on_location, step_cost}
use Rattle.strip_film.proofs.Lists.{AllOnce, rest_after-append}
use Rattle.strip_start.specs.Sides.{cast_along, wait_cost, turn_cost}
use Rattle.strip_start.proofs.Parts.{steps_cost-parts}
use Rattle.strip_start.proofs.Along.{cast_along-append, located_between}

-- who waits in any order, and who waits only where this scene is shot first: `cast` has it, `other` comes next
waits_first : (before behind cast other : ℕ)
    → minus (meet (union cast (union other behind)) before) cast ≡ union (minus (meet behind before) cast) (minus (meet other (minus before behind)) cast)
waits_first before behind cast other = same_has _ _ (λ i.
    has-minus (meet (union cast (union other behind)) before) cast i
    ∙ ap (λ (b : Bool). b && not (has cast i)) (has-meet (union cast (union other behind)) before i
    ∙ ap (λ (b : Bool). b && has before i) (has-union cast (union other behind) i ∙ ap (λ (b : Bool). has cast i || b) (has-union other behind i)))
    ∙ table (has before i) (has behind i) (has cast i) (has other i)
    ∙ sym (has-union (minus (meet behind before) cast) (minus (meet other (minus before behind)) cast) i
    ∙ rw (
      has-minus (meet behind before) cast i,
      has-meet behind before i,
      has-minus (meet other (minus before behind)) cast i,
      has-meet other (minus before behind) i,
      has-minus before behind i,
    )))
  where
    table : (b e c o : Bool) → (((c || (o || e)) && b) && not c) ≡ (((e && b) && not c) || ((o && (b && not e)) && not c))
    table true true true true = refl
    table true true true false = refl
    table true true false true = refl
    table true true false false = refl
    table true false true true = refl
    table true false true false = refl
    table true false false true = refl
    table true false false false = refl
    table false true true true = refl
    table false true true false = refl
    table false true false true = refl
    table false true false false = refl
    table false false true true = refl
    table false false true false = refl
    table false false false true = refl
    table false false false false = refl

-- and only where it is shot second
waits_second : (before behind cast other : ℕ)
    → minus (meet (union cast behind) (union before other)) cast ≡ union (minus (meet behind before) cast) (minus (meet other (minus behind before)) cast)
waits_second before behind cast other = same_has _ _ (λ i.
    has-minus (meet (union cast behind) (union before other)) cast i
    ∙ ap (λ (b : Bool). b && not (has cast i)) (has-meet (union cast behind) (union before other) i
    ∙ rw (has-union cast behind i, has-union before other i))
    ∙ table (has before i) (has behind i) (has cast i) (has other i)
    ∙ sym (has-union (minus (meet behind before) cast) (minus (meet other (minus behind before)) cast) i
    ∙ rw (
      has-minus (meet behind before) cast i,
      has-meet behind before i,
      has-minus (meet other (minus behind before)) cast i,
      has-meet other (minus behind before) i,
      has-minus behind before i,
    )))
  where
    table : (b e c o : Bool) → (((c || e) && (b || o)) && not c) ≡ (((e && b) && not c) || ((o && (e && not b)) && not c))
    table true true true true = refl
    table true true true false = refl
    table true true false true = refl
    table true true false false = refl
    table true false true true = refl
    table true false true false = refl
    table true false false true = refl
    table true false false false = refl
    table false true true true = refl
    table false true true false = refl
    table false true false true = refl
    table false true false false = refl
    table false false true true = refl
    table false false true false = refl
    table false false false true = refl
    table false false false false = refl

-- actors of two sets that have none in common
sum_apart : (v : List ℕ) (a b cast other : ℕ) → ((i : ℕ) → has a i ≡ true → has b i ≡ false)
    → sum_over v (union (minus a cast) (minus (meet other b) cast)) ≡ sum_over v (minus a cast) + sum_over v (minus (meet other b) cast)
sum_apart v a b cast other apart = sum_over-union v (minus a cast) (minus (meet other b) cast) (λ i member.
    has-minus (meet other b) cast i ∙ ap (λ (t : Bool). t && not (has cast i)) (has-meet other b i
    ∙ ap (λ (t : Bool). has other i && t) (apart i (has_from_minus a cast i member).0))
    ∙ none (has other i) (not (has cast i)))
  where
    none : (x y : Bool) → ((x && false) && y) ≡ false
    none true y = refl
    none false y = refl

-- who works on both sides doesn't work on one alone
both_not_before : (before behind i : ℕ) → has (meet behind before) i ≡ true → has (minus before behind) i ≡ false
both_not_before before behind i member =
    let inside : has behind i ≡ true = (has_from_meet behind before i member).0 in
    has-minus before behind i ∙ ap (λ (t : Bool). has before i && not t) inside ∙ and-false (has before i)

both_not_behind : (before behind i : ℕ) → has (meet behind before) i ≡ true → has (minus behind before) i ≡ false
both_not_behind before behind i member =
    let inside : has before i ≡ true = (has_from_meet behind before i member).1 in
    has-minus behind before i ∙ ap (λ (t : Bool). has behind i && not t) inside ∙ and-false (has behind i)

-- what a scene costs in any order, where these work before and behind it and the other
abbrev own_part : FilmData → ℕ → ℕ → ℕ → ℕ
own_part film before behind scene =
    slice_index film.days scene * (sum_over film.rates (slice_index film.casts scene)
    + sum_over film.holds (minus (meet behind before) (slice_index film.casts scene)))

spread : (d r a b : ℕ) → d * (r + (a + b)) ≡ d * (r + a) + d * b
spread d r a b =
    let whole : r + (a + b) ≡ (r + a) + b = omega arith in
    ap (λ (n : ℕ). d * n) whole ∙ mul-add d (r + a) b

module _ (film : FilmData) (is : IsFilm film) (before behind : List ℕ) where
  abbrev rest : ℕ
  rest = rest_after (all_scenes film) before

  abbrev sides_part : ℕ → ℕ
  sides_part scene = own_part film (cast_along film before) (cast_along film behind) scene

  -- the two steps, by what they cost in either order and what they cost in this one
  two_steps : (first second : ℕ) → AllOnce (all_scenes film) (before ++ first ∷ second ∷ behind)
      → step_cost film rest first + step_cost film (without rest first) second
      ≡ sides_part first + sides_part second + turn_cost film (cast_along film before) (cast_along film behind) first second
  two_steps first second each =
      let b : ℕ = cast_along film before in
      let e : ℕ = cast_along film behind in
      let cf : ℕ = slice_index film.casts first in
      let cs : ℕ = slice_index film.casts second in
      let split : (before ++ first ∷ []) ++ second ∷ behind ≡ before ++ first ∷ second ∷ behind = append_assoc before (first ∷ []) (second ∷ behind) in
      let on_first : on_location film rest ≡ meet (union cf (union cs e)) b = located_between film before (first ∷ second ∷ behind) is each in
      let on_second : on_location film (without rest first) ≡ meet (union cs e) (union b cf)
      = ap (on_location film) (sym (rest_after-append (all_scenes film) first before))
      ∙ located_between film (before ++ first ∷ []) (second ∷ behind) is (subst (λ (xs : List ℕ). AllOnce (all_scenes film) xs) (sym split) each)
      ∙ ap (λ (q : ℕ). meet (union cs e) q) (cast_along-append film before first) in
      let first_waits : sum_over film.holds (minus (on_location film rest) cf)
      ≡ sum_over film.holds (minus (meet e b) cf) + sum_over film.holds (minus (meet cs (minus b e)) cf)
      = ap (λ (q : ℕ). sum_over film.holds (minus q cf)) on_first ∙ ap (sum_over film.holds) (waits_first b e cf cs)
      ∙ sum_apart film.holds (meet e b) (minus b e) cf cs (both_not_before b e) in
      let second_waits : sum_over film.holds (minus (on_location film (without rest first)) cs)
      ≡ sum_over film.holds (minus (meet e b) cs) + sum_over film.holds (minus (meet cf (minus e b)) cs)
      = ap (λ (q : ℕ). sum_over film.holds (minus q cs)) on_second ∙ ap (sum_over film.holds) (waits_second b e cs cf)
      ∙ sum_apart film.holds (meet e b) (minus e b) cs cf (both_not_behind b e) in
      let step_first : step_cost film rest first ≡ sides_part first + wait_cost film (meet cs (minus b e)) first
      = ap (λ (n : ℕ). slice_index film.days first * (sum_over film.rates cf + n)) first_waits
      ∙ spread (slice_index film.days first) (sum_over film.rates cf) (sum_over film.holds (minus (meet e b) cf)) (sum_over film.holds (minus (meet cs (minus b e)) cf)) in
      let step_second : step_cost film (without rest first) second ≡ sides_part second + wait_cost film (meet cf (minus e b)) second
      = ap (λ (n : ℕ). slice_index film.days second * (sum_over film.rates cs + n)) second_waits
      ∙ spread (slice_index film.days second) (sum_over film.rates cs) (sum_over film.holds (minus (meet e b) cs)) (sum_over film.holds (minus (meet cf (minus e b)) cs)) in
      sums _ _ _ _ _ _ step_first step_second
    where
      sums : (x y f s u v : ℕ) → x ≡ f + u → y ≡ s + v → x + y ≡ f + s + (u + v)
      sums x y f s u v p q = omega (arith, p, q)

  -- an order and that with two neighbours turned differ by what each of the two costs more in its place
  pub turned_costs : (first second : ℕ)
      → AllOnce (all_scenes film) (before ++ first ∷ second ∷ behind) → AllOnce (all_scenes film) (before ++ second ∷ first ∷ behind)
      → steps_cost film (all_scenes film) (before ++ second ∷ first ∷ behind) + turn_cost film (cast_along film before) (cast_along film behind) first second
      ≡ steps_cost film (all_scenes film) (before ++ first ∷ second ∷ behind) + turn_cost film (cast_along film before) (cast_along film behind) second first
  turned_costs first second each other =
      let swap : steps_cost film (without (without rest first) second) behind ≡ steps_cost film (without (without rest second) first) behind
      = ap (λ (q : ℕ). steps_cost film q behind) (without_swap rest first second) in
      sums (steps_cost film (all_scenes film) before) (step_cost film rest first) (step_cost film (without rest first) second)
      (step_cost film rest second) (step_cost film (without rest second) first)
      (steps_cost film (without (without rest first) second) behind) (steps_cost film (without (without rest second) first) behind)
      (sides_part first) (sides_part second) _ _ _ _
      (steps_cost-parts film (all_scenes film) before (first ∷ second ∷ behind)) (steps_cost-parts film (all_scenes film) before (second ∷ first ∷ behind))
      (two_steps first second each) (two_steps second first other) swap
    where
      sums : (front a b c d k l f s t u whole turned : ℕ) → whole ≡ front + (a + (b + k)) → turned ≡ front + (c + (d + l))
          → a + b ≡ f + s + t → c + d ≡ s + f + u → k ≡ l → turned + t ≡ whole + u
      sums front a b c d k l f s t u whole turned p q r v w = omega (arith, p, q, r, v, w)
