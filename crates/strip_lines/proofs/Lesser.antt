-- Below a lesser cost there are at most as many candidates.
use Rattle.std.proofs.Common.{◌≡◌, ℕ, ◌+◌, ◌≤◌, ◌==◌, Bool, true, ltb, List, [], ◌∷◌, count_by, length, arith}
use Rattle.std.proofs.lemmas.Bool.{ltb-true, lt-ltb, and_parts, and_from}
use Rattle.strip_mask.proofs.Sizes.{mark_le}
use Rattle.strip_film.specs.Film.{all_scenes}
use Rattle.strip_film.specs.Path.{PathData}
use Rattle.strip_film.specs.Rules.{Rules}
use Rattle.strip_lines.specs.Paths.{are_firsts, candidate_count, is_candidate, leaving, lists_from, path_along, leaving_count}
use Rattle.strip_lines.proofs.Sums.{count-cons}

-- a test that another follows from counts no more
count_le : {X : Type 0} (p q : X → Bool) (xs : List X) → ((x : X) → p x ≡ true → q x ≡ true) → count_by p xs ≤ count_by q xs
count_le p q [] follows = omega arith
count_le p q (x ∷ xs) follows =
    omega (arith, mark_le (p x) (q x) (follows x), count_le p q xs follows, count-cons p x xs, count-cons q x xs)

module _ (rules : Rules) (lesser cost : ℕ) (below : lesser ≤ cost) where
  still : (path : PathData) → is_candidate rules lesser path ≡ true → is_candidate rules cost path ≡ true
  still path is =
      let firsts = are_firsts rules.firsts (all_scenes rules.film) path.scenes in
      let both = and_parts firsts (ltb (path.paid + rules.bound path.rest) lesser) is in
      let less = ltb-true (path.paid + rules.bound path.rest) lesser both.1 in
      and_from firsts (ltb (path.paid + rules.bound path.rest) cost) both.0
      (lt-ltb (path.paid + rules.bound path.rest) cost (omega (arith, less, below)))

  pub few_stay : candidate_count rules lesser ≤ candidate_count rules cost
  few_stay =
      count_le (λ scenes. is_candidate rules lesser (path_along rules.film scenes)) (λ scenes. is_candidate rules cost (path_along rules.film scenes))
      (lists_from rules.film (length rules.film.casts) (all_scenes rules.film)) (λ scenes. still (path_along rules.film scenes))

  pub ways_stay : (set : ℕ) → leaving_count rules lesser set ≤ leaving_count rules cost set
  ways_stay set =
      count_le (λ scenes. leaving set (is_candidate rules lesser) (path_along rules.film scenes))
      (λ scenes. leaving set (is_candidate rules cost) (path_along rules.film scenes))
      (lists_from rules.film (length rules.film.casts) (all_scenes rules.film)) (λ scenes is.
      let path = path_along rules.film scenes in
      let both = and_parts (path.rest == set) (is_candidate rules lesser path) is in
      and_from (path.rest == set) (is_candidate rules cost path) both.0 (still path both.1))
