-- What is known of the set that a path of a layer leaves.
use Rattle.std.proofs.Common.{◌≡◌, ◌≢◌, ℕ, ◌<◌, ◌≤◌, Bool, false, true, ltb, nat_eq, Option, List, length, map, get_or, Some, None, refl, sym, ap, ◌∙◌, arith}
use Rattle.std.specs.List.{AllPairs, position, position_or_len}
use Rattle.std.proofs.lemmas.Bool.{cond-true, eq-eqb, eqb-true, lt-ltb, ne_eqb}
use Rattle.std.proofs.lemmas.List.{get_or-map, length-map}
use Rattle.std.proofs.lemmas.List.Quantifiers.{position-Some}
use Rattle.std.proofs.lemmas.List.Sums.{position_or_len_is}
use Rattle.strip_film.specs.Path.{PathData}
use Rattle.strip_lines.specs.Parts.{no_task}
use Rattle.strip_layers.specs.declared.layer.Standing.{Standing}
use Rattle.strip_layers.specs.Layer.{standing_at, value_at, value_in}

abbrev pub rests : List PathData → List ℕ
rests paths = map (λ path. path.rest) paths

abbrev pub path_at : List PathData → ℕ → PathData
path_at paths place = get_or paths place no_task

-- the first place that passes
position_at : (p : ℕ → Bool) (xs : List ℕ) (i : ℕ) → i < length xs → p (get_or xs i 0) ≡ true → ((k : ℕ) → k < i → p (get_or xs k 0) ≡ false)
    → position p xs ≡ Some i
position_at p xs i within passes before =
    let first : position_or_len p xs ≡ i = position_or_len_is p xs i 0 (omega (arith, within)) before (λ _. passes) in
    cond-true (ltb (position_or_len p xs) (length xs)) (Some (position_or_len p xs)) None
    (lt-ltb (position_or_len p xs) (length xs) (omega (arith, first, within)))
    ∙ ap (λ (n : ℕ). Some n) first

module _ (paths : List PathData) (sets : List ℕ) (standings : List Standing) (sets_are : sets ≡ rests paths)
    (apart : AllPairs (λ a b. a.rest ≢ b.rest) paths) where
  rest_at : (place : ℕ) → place < length paths → get_or (rests paths) place 0 ≡ (path_at paths place).rest
  rest_at place within = get_or-map (λ (path : PathData). path.rest) paths place no_task 0 within

  count : length (rests paths) ≡ length paths
  count = length-map paths (λ (path : PathData). path.rest)

  place_of : (place : ℕ) → place < length paths → position (nat_eq (path_at paths place).rest) sets ≡ Some place
  place_of place within =
      ap (position (nat_eq (path_at paths place).rest)) sets_are
      ∙ position_at (nat_eq (path_at paths place).rest) (rests paths) place (omega (arith, within, count))
      (eq-eqb (path_at paths place).rest (get_or (rests paths) place 0) (sym (rest_at place within)))
      (λ k before. ne_eqb (path_at paths place).rest (get_or (rests paths) k 0)
      (λ same. apart k place no_task before within (sym (same ∙ rest_at k (omega (arith, before, within))))))

  -- what is known of it is the value that stands at the path's place
  pub value_there : (place : ℕ) → place < length paths → value_in sets standings (path_at paths place).rest ≡ (standing_at standings place).value
  value_there place within = ap (value_at standings) (place_of place within)

  -- what is known of any set is 0, or the value of a path that leaves it
  pub value_known : (set most : ℕ) → ((place : ℕ) → place < length paths → (path_at paths place).rest ≡ set → (standing_at standings place).value ≤ most)
      → value_in sets standings set ≤ most
  value_known set most each = by_place (position (nat_eq set) sets) refl
    where
      by_place : (found : Option ℕ) → position (nat_eq set) sets ≡ found → value_at standings found ≤ most
      by_place None is = omega arith
      by_place (Some place) is =
          let some = position-Some (nat_eq set) sets place 0 is in
          let within : place < length paths = omega (arith, some.0, ap length sets_are, count) in
          each place within
          (sym (eqb-true set (get_or sets place 0) some.1 ∙ ap (λ (xs : List ℕ). get_or xs place 0) sets_are ∙ rest_at place within))
