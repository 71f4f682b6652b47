-- The table of the scenes that come directly before each scene, pair by pair.
use Rattle.std.proofs.Common.{◌≡◌, ◌≢◌, ℕ, ◌<◌, Bool, true, false, ◌&&◌, ◌||◌, eqb, List, [], ◌∷◌, ◌++◌, length, replicate, set, slice_index, inl, inr, refl, sym, ap, ◌∙◌, subst, arith}
use Rattle.std.proofs.Math.Bool.{or_comm, or-false}
use Rattle.std.proofs.lemmas.Bool.{and_parts, cases_lt, eq-eqb, eqb-true, or_cases}
use Rattle.std.proofs.lemmas.Bool.Decides.{eqb_tells}
use Rattle.std.proofs.lemmas.List.{get_or-replicate, get_or-set_same, get_or-set_other, get_or_past, length-replicate}
use Rattle.std.proofs.lemmas.List.Elements.{Contains-append_left, Contains-push, Contains-push_cases}
use Rattle.strip_mask.specs.Set.{has, with}
use Rattle.strip_mask.proofs.ByMembers.{has-empty, has-with}
use Rattle.strip_model.specs.declared.pair.Pair.{Pair}
use Rattle.strip_model.specs.Pairs.{Precedes}
use Rattle.strip_film.specs.Film.{TellsBefore}

-- no pairs, no scene before any
pub TellsBefore-none : (n : ℕ) → TellsBefore [] (replicate n 0)
TellsBefore-none n = record {
  each = λ scene first. (
    λ member. absurd (let e : has 0 first ≡ true = subst (λ (q : ℕ). has q first ≡ true) (empty scene) member in let f : has 0 first ≡ false = has-empty first in cc),
    λ pair. absurd (omega (arith, pair.1)),
  );
}
  where
    empty : (scene : ℕ) → slice_index (replicate n 0) scene ≡ 0
    empty scene = elim (cases_lt scene n) [
      | inl within ↦ get_or-replicate n scene 0 0 within
      | inr past ↦ get_or_past (replicate n 0) scene 0 (omega (arith, past, length-replicate {A = ℕ} n 0))
    ]

module _ (pairs : List Pair) (table : List ℕ) (pair : Pair) (tells : TellsBefore pairs table) (within : pair.then < length table) where
  -- the table with the pair in it
  abbrev more : List ℕ
  more = set table pair.then (with (slice_index table pair.then) pair.first)

  has-more : (scene first : ℕ) → has (slice_index more scene) first ≡ (has (slice_index table scene) first || (eqb pair.then scene && eqb pair.first first))
  has-more scene first = elim (eqb_tells pair.then scene) [
    | inl same ↦ (let row : slice_index more scene ≡ with (slice_index table scene) pair.first
        = subst (λ (i : ℕ). slice_index more i ≡ with (slice_index table i) pair.first) same.1
        (get_or-set_same table pair.then (with (slice_index table pair.then) pair.first) 0 within) in
        ap (λ (q : ℕ). has q first) row ∙ has-with (slice_index table scene) pair.first first
        ∙ or_comm (eqb pair.first first) (has (slice_index table scene) first)
        ∙ ap (λ (b : Bool). has (slice_index table scene) first || (b && eqb pair.first first)) (sym same.0))
    | inr other ↦ (let differs : scene ≢ pair.then = λ tie. other.1 (sym tie) in
        ap (λ (q : ℕ). has q first) (get_or-set_other table pair.then scene (with (slice_index table pair.then) pair.first) 0 differs)
        ∙ sym (or-false (has (slice_index table scene) first))
        ∙ ap (λ (b : Bool). has (slice_index table scene) first || (b && eqb pair.first first)) (sym other.0))
  ]

  abbrev as_pair : ℕ → ℕ → Pair
  as_pair first scene = record { first = first; then = scene }

  is_told : (scene first : ℕ) → has (slice_index more scene) first ≡ true → Precedes (pairs ++ pair ∷ []) first scene
  is_told scene first member = elim (or_cases (has (slice_index table scene) first) (eqb pair.then scene && eqb pair.first first) (sym (has-more scene first) ∙ member)) [
    | inl before ↦ Contains-append_left pairs (pair ∷ []) (as_pair first scene) ((tells.each scene first).0 before)
    | inr here ↦ (let ties = and_parts (eqb pair.then scene) (eqb pair.first first) here in
        subst (λ (i : ℕ). Precedes (pairs ++ pair ∷ []) i scene) (eqb-true pair.first first ties.1)
        (subst (λ (i : ℕ). Precedes (pairs ++ pair ∷ []) pair.first i) (eqb-true pair.then scene ties.0) (Contains-push pairs pair)))
  ]

  told : (scene first : ℕ) → Precedes (pairs ++ pair ∷ []) first scene → has (slice_index more scene) first ≡ true
  told scene first precedes = has-more scene first ∙ elim (Contains-push_cases pairs pair (as_pair first scene) precedes) [
    | inl before ↦ rw ((tells.each scene first).1 before) refl
    | inr here ↦ (let later : eqb pair.then scene ≡ true = eq-eqb pair.then scene (ap (λ (p : Pair). p.then) here) in
        let earlier : eqb pair.first first ≡ true = eq-eqb pair.first first (ap (λ (p : Pair). p.first) here) in
        rw (later, earlier) (or_comm (has (slice_index table scene) first) true))
  ]

  pub TellsBefore-more : TellsBefore (pairs ++ pair ∷ []) more
  TellsBefore-more = record { each = λ scene first. (is_told scene first, told scene first) }
