-- Scenes and actors that can't be joined stay so where others are joined.
use Rattle.std.proofs.Common.{◌≡◌, ℕ, ◌+◌, ◌-◌, ◌<◌, ◌≤◌, Bool, true, false, not, ◌&&◌, ◌||◌, eqb, ltb, List, [], ◌∷◌, All, length, map, slice_index, refl, sym, ap, ◌∙◌, subst, inl, inr, arith}
use Rattle.std.specs.Bool.{beq}
use Rattle.std.specs.List.{list_all, remove}
use Rattle.std.proofs.lemmas.Bool.{or_parts, cases_lt, cases_eq, eq-eqb, lt-ltb}
use Rattle.std.proofs.lemmas.Bool.Decides.{nat_tests}
use Rattle.std.proofs.lemmas.List.{get_or-map, length-map}
use Rattle.std.proofs.lemmas.List.Edits.{length-remove}
use Rattle.std.proofs.Math.Bool.{and-false}
use Rattle.strip_mask.specs.Set.{IsSet, LiesBelow, has, closed_up, behind_gap}
use Rattle.strip_mask.proofs.Below.{is_set_below}
use Rattle.strip_mask.proofs.ByMembers.{same_set}
use Rattle.strip_mask.proofs.Gaps.{has-closed_up}
use Rattle.strip_model.specs.declared.pair.Pair.{Pair}
use Rattle.strip_model.specs.Film.{FilmData}
use Rattle.strip_reduce.specs.Steps.{can_join_actors, can_join_scenes, casts_without, is_paired, renumbered, renumbered_pair}
use Rattle.strip_reduce.specs.Search.{NoTwoBelow}
use Rattle.strip_reduce.proofs.Places.{gap_below, removed-at}
use Rattle.strip_reduce.proofs.JoinActors.{same_column}

-- ---- a scene is taken out

renumbered_is : (gone scene place : ℕ) → eqb scene gone ≡ false → eqb (renumbered gone scene) place ≡ eqb scene (behind_gap gone place)
renumbered_is gone scene place other = grind (arith, nat_tests)

-- a scene at its new place stands in a pair as it did
pub is_paired-renumbered : (pairs : List Pair) (gone place : ℕ) → is_paired pairs gone ≡ false
    → is_paired (map (renumbered_pair gone) pairs) place ≡ is_paired pairs (behind_gap gone place)
is_paired-renumbered [] gone place none = refl
is_paired-renumbered (pair ∷ pairs) gone place none =
    let parts = or_parts (eqb pair.first gone || eqb pair.then gone) (is_paired pairs gone) none in
    let ends = or_parts (eqb pair.first gone) (eqb pair.then gone) parts.0 in
    rw (renumbered_is gone pair.first place ends.0, renumbered_is gone pair.then place ends.1, is_paired-renumbered pairs gone place parts.1) refl

-- `after` has the casts and the pairs without the scene
pub none-without : (before after : FilmData) (a gone : ℕ) → a < gone → gone < length before.casts → is_paired before.pairs gone ≡ false
    → after.casts ≡ remove before.casts gone → after.pairs ≡ map (renumbered_pair gone) before.pairs
    → NoTwoBelow a (length before.casts) (can_join_scenes before) → NoTwoBelow a (length after.casts) (can_join_scenes after)
none-without before after a gone rise known single casts pairs apart = record {
  each = λ i j lt past small.
      let cast_at : (place : ℕ) → slice_index after.casts place ≡ slice_index before.casts (behind_gap gone place) = λ place. ap (λ (xs : List ℕ). slice_index xs place) casts ∙ removed-at before.casts gone known place 0 in
      let paired_at : (place : ℕ) → is_paired after.pairs place ≡ is_paired before.pairs (behind_gap gone place) = λ place. ap (λ (xs : List Pair). is_paired xs place) pairs ∙ is_paired-renumbered before.pairs gone place single in
      let same : behind_gap gone i ≡ i = (let low : ltb i gone ≡ true = lt-ltb i gone (omega arith) in rw low refl) in
      let long : length (remove before.casts gone) + 1 ≡ length before.casts = length-remove before.casts gone known in
      let short : j < length (remove before.casts gone) = subst (λ (xs : List ℕ). j < length xs) casts small in
      let behind : i < behind_gap gone j = grind (arith, nat_tests) in
      let within : behind_gap gone j < length before.casts = grind (arith, nat_tests) in
      rw (cast_at i, cast_at j, paired_at i, paired_at j, same) (apart.each i (behind_gap gone j) lt behind within);
}

-- ---- an actor is counted in another

-- the actor whose place is closed up works in these sets where a lower one does, so no two sets become one
closed_same : (x y a b : ℕ) → IsSet x → IsSet y → a < b → has x a ≡ has x b → has y a ≡ has y b → closed_up x b ≡ closed_up y b → x ≡ y
closed_same x y a b is_x is_y rise same_x same_y closed = same_set x y is_x is_y (λ i small. elim (cases_lt i b) [
  | inl low ↦ below i low
  | inr high ↦ elim (cases_eq i b) [
    | inl here ↦ subst (λ (k : ℕ). has x k ≡ has y k) (sym here) (sym same_x ∙ below a rise ∙ same_y)
    | inr above ↦ (
        let place : behind_gap b (i - 1) ≡ i = grind (arith, nat_tests) in
        subst (λ (k : ℕ). has x k ≡ has y k) place (at (i - 1)))
  ]
])
  where
    at : (i : ℕ) → has x (behind_gap b i) ≡ has y (behind_gap b i)
    at i = sym (has-closed_up x b i) ∙ ap (λ (z : ℕ). has z i) closed ∙ has-closed_up y b i

    below : (i : ℕ) → i < b → has x i ≡ has y i
    below i low = (let place : behind_gap b i ≡ i = (let is : ltb i b ≡ true = lt-ltb i b low in rw is refl) in subst (λ (k : ℕ). has x k ≡ has y k) place (at i))

-- `after` has the casts without the actor, and the same pairs
pub none-counted : (before after : FilmData) (distinct a b actors : ℕ) → actors ≤ 64 → a < b → All (LiesBelow actors) before.casts → can_join_actors before a b ≡ true
    → after.casts ≡ casts_without before.casts b → after.pairs ≡ before.pairs
    → NoTwoBelow distinct (length before.casts) (can_join_scenes before) → NoTwoBelow distinct (length after.casts) (can_join_scenes after)
none-counted before after distinct a b actors few rise within alike casts pairs apart = record {
  each = λ i j lt past small.
      let known : j < length before.casts = (let long : length after.casts ≡ length before.casts = ap length casts ∙ length-map before.casts (λ cast. closed_up cast b) in omega arith) in
      let known_i : i < length before.casts = omega arith in
      let was : can_join_scenes before i j ≡ false = apart.each i j lt past known in
      let x : ℕ = slice_index before.casts i in
      let y : ℕ = slice_index before.casts j in
      let cast_i : slice_index after.casts i ≡ closed_up x b = ap (λ (xs : List ℕ). slice_index xs i) casts ∙ get_or-map (λ cast. closed_up cast b) before.casts i 0 0 known_i in
      let cast_j : slice_index after.casts j ≡ closed_up y b = ap (λ (xs : List ℕ). slice_index xs j) casts ∙ get_or-map (λ cast. closed_up cast b) before.casts j 0 0 known in
      let is_x : IsSet x = is_set_below actors x few (within i 0 known_i) in
      let is_y : IsSet y = is_set_below actors y few (within j 0 known) in
      let back : closed_up x b ≡ closed_up y b → x ≡ y = closed_same x y a b is_x is_y rise (same_column before.casts a b i alike) (same_column before.casts a b j alike) in
      rw (cast_i, cast_j, pairs) (still x y (closed_up x b) (closed_up y b) (not (is_paired before.pairs i) && not (is_paired before.pairs j)) back was);
}
  where
    still : (x y u v : ℕ) (rest : Bool) → (u ≡ v → x ≡ y) → (eqb x y && rest) ≡ false → (eqb u v && rest) ≡ false
    still x y u v rest back was = elim (cases_eq u v) [
      | inl same ↦ (let equal : eqb x y ≡ true = eq-eqb x y (back same) in let none : rest ≡ false = sym (rw equal refl) ∙ was in rw none (and-false (eqb u v)))
      | inr other ↦ (let apart_now : eqb u v ≡ false = grind (arith, nat_tests) in rw apart_now refl)
    ]

-- the actors' places as they were
can_join-without : (casts : List ℕ) (b i j : ℕ) → list_all (λ cast. beq (has cast i) (has cast j)) (casts_without casts b)
    ≡ list_all (λ cast. beq (has cast (behind_gap b i)) (has cast (behind_gap b j))) casts
can_join-without [] b i j = refl
can_join-without (cast ∷ casts) b i j =
    (λ k. beq (has-closed_up cast b i k) (has-closed_up cast b j k) && can_join-without casts b i j k)

-- actors who were compared stay apart where an actor behind them is taken out
pub none-actors : (before after : FilmData) (a b actors left : ℕ) → a < b → b < actors → left + 1 ≡ actors → after.casts ≡ casts_without before.casts b
    → NoTwoBelow a actors (can_join_actors before) → NoTwoBelow a left (can_join_actors after)
none-actors before after a b actors left rise known one_less casts apart = record {
  each = λ i j lt past small.
      let same : behind_gap b i ≡ i = gap_below b i (omega (arith, lt, rise)) in
      let behind : i < behind_gap b j = grind (arith, nat_tests) in
      let within : behind_gap b j < actors = grind (arith, nat_tests) in
      ap (λ (xs : List ℕ). list_all (λ cast. beq (has cast i) (has cast j)) xs) casts ∙ can_join-without before.casts b i j
      ∙ ap (λ (k : ℕ). can_join_actors before k (behind_gap b j)) same ∙ apart.each i (behind_gap b j) lt behind within;
}
