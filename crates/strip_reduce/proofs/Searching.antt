-- What a search for a step has found so far.
use Rattle.std.proofs.Common.{◌≡◌, ℕ, ◌+◌, ◌<◌, nat_le, Bool, true, false, cond, not, ◌&&◌, ◌||◌, eqb, List, length, take, set, get_or, slice_index, slice_index_or, replicate, refl, sym, ap, ◌∙◌, subst, inl, inr, arith}
use Rattle.std.specs.Bool.{beq}
use Rattle.std.proofs.lemmas.Bool.{cases_lt, cases_eq, eq-eqb}
use Rattle.std.proofs.lemmas.Bool.Decides.{nat_tests}
use Rattle.std.proofs.lemmas.List.{get_or-set_same, get_or-set_other, length-set, get_or-replicate, get_or_past, length-replicate}
use Rattle.std.proofs.lemmas.List.Folds.{list_any_more}
use Rattle.std.proofs.Math.Bool.{and-false, or_assoc, or-false, or-true}
use Rattle.strip_mask.specs.Set.{has, meet, minus, union}
use Rattle.strip_mask.specs.Sums.{sum_below}
use Rattle.strip_mask.proofs.ByMembers.{has-meet, has-minus, has-union}
use Rattle.strip_mask.proofs.Sums.{sum_below-zero, sum_below-more}
use Rattle.strip_model.specs.declared.pair.Pair.{Pair}
use Rattle.strip_model.specs.Film.{FilmData}
use Rattle.strip_reduce.specs.Steps.{can_drop, can_join_scenes, is_paired, scene_count}
use Rattle.strip_reduce.specs.Search.{can_join_marked}

-- ---- actors of one scene

-- in how many of the first n scenes the actor works
abbrev pub works_below : List ℕ → ℕ → ℕ → ℕ
works_below casts n actor = sum_below n (λ scene. cond (has (slice_index casts scene) actor) 1 0)

pub works_none : (casts : List ℕ) (actor : ℕ) → works_below casts 0 actor ≡ 0
works_none casts actor = sum_below-zero (λ scene. cond {A = ℕ} (has (slice_index casts scene) actor) 1 0)

works_more : (casts : List ℕ) (n actor : ℕ) → works_below casts (n + 1) actor ≡ works_below casts n actor + cond (has (slice_index casts n) actor) 1 0
works_more casts n actor = sum_below-more n (λ scene. cond {A = ℕ} (has (slice_index casts scene) actor) 1 0)

one_more : (was here : Bool) (n : ℕ) → was ≡ nat_le 1 n → (was || here) ≡ nat_le 1 (n + cond here 1 0)
one_more true true n e = grind (arith, nat_tests)
one_more true false n e = grind (arith, nat_tests)
one_more false true n e = grind (arith, nat_tests)
one_more false false n e = grind (arith, nat_tests)

two_more : (once was here : Bool) (n : ℕ) → once ≡ nat_le 1 n → was ≡ nat_le 2 n → (was || (once && here)) ≡ nat_le 2 (n + cond here 1 0)
two_more true true true n o e = grind (arith, nat_tests)
two_more true true false n o e = grind (arith, nat_tests)
two_more true false true n o e = grind (arith, nat_tests)
two_more true false false n o e = grind (arith, nat_tests)
two_more false true true n o e = grind (arith, nat_tests)
two_more false true false n o e = grind (arith, nat_tests)
two_more false false true n o e = grind (arith, nat_tests)
two_more false false false n o e = grind (arith, nat_tests)

pub once_more : (casts : List ℕ) (once n actor : ℕ) → has once actor ≡ nat_le 1 (works_below casts n actor)
    → has (union once (slice_index casts n)) actor ≡ nat_le 1 (works_below casts (n + 1) actor)
once_more casts once n actor e = has-union once (slice_index casts n) actor
    ∙ one_more (has once actor) (has (slice_index casts n) actor) (works_below casts n actor) e ∙ ap (nat_le 1) (sym (works_more casts n actor))

pub twice_more : (casts : List ℕ) (once twice n actor : ℕ) → has once actor ≡ nat_le 1 (works_below casts n actor) → has twice actor ≡ nat_le 2 (works_below casts n actor)
    → has (union twice (meet once (slice_index casts n))) actor ≡ nat_le 2 (works_below casts (n + 1) actor)
twice_more casts once twice n actor o e = has-union twice (meet once (slice_index casts n)) actor
    ∙ ap (λ (b : Bool). has twice actor || b) (has-meet once (slice_index casts n) actor)
    ∙ two_more (has once actor) (has twice actor) (has (slice_index casts n) actor) (works_below casts n actor) o e ∙ ap (nat_le 2) (sym (works_more casts n actor))

-- who works in no two scenes, or costs nothing to wait, can be dropped, and no other
pub can_drop_waiting : (film : FilmData) (actor : ℕ) → slice_index film.holds actor ≡ 0 → can_drop film actor ≡ true
can_drop_waiting film actor none = rw none refl

pub can_drop_once : (film : FilmData) (twice actor : ℕ) → has twice actor ≡ nat_le 2 (scene_count film actor) → has twice actor ≡ false → can_drop film actor ≡ true
can_drop_once film twice actor is out = one (eqb (slice_index film.holds actor) 0) (scene_count film actor) (sym is ∙ out)
  where
    one : (b : Bool) (n : ℕ) → nat_le 2 n ≡ false → (b || nat_le n 1) ≡ true
    one true n e = refl
    one false n e = grind (arith, nat_tests)

-- ---- actors of the same scenes

beq_true : (b : Bool) → beq true b ≡ b
beq_true true = refl
beq_true false = refl

beq_false : (b : Bool) → beq false b ≡ not b
beq_false true = refl
beq_false false = refl

pub alike_in : (inside cast actor other : ℕ) → has cast actor ≡ true → has (meet inside cast) other ≡ (has inside other && beq (has cast actor) (has cast other))
alike_in inside cast actor other is = rw (is, beq_true) (has-meet inside cast other)

pub alike_out : (inside cast actor other : ℕ) → has cast actor ≡ false → has (minus inside cast) other ≡ (has inside other && beq (has cast actor) (has cast other))
alike_out inside cast actor other is = rw (is, beq_false) (has-minus inside cast other)

-- ---- marks

-- no mark, and no pair
pub marked_none : (scene : ℕ) → slice_index_or (replicate 200 false) scene false ≡ false
marked_none scene = elim (cases_lt scene 200) [
  | inl lt ↦ get_or-replicate 200 scene false false lt
  | inr past ↦ get_or_past (replicate 200 false) scene false (omega (arith, length-replicate 200 false))
]

-- one mark more
mark_more : (marks : List Bool) (place scene : ℕ) → place < length marks → slice_index_or (set marks place true) scene false ≡ (slice_index_or marks scene false || eqb place scene)
mark_more marks place scene room = elim (cases_eq scene place) [
  | inl same ↦ rw (same, eq-eqb place place refl) (get_or-set_same marks place true false room ∙ sym (or-true (slice_index_or marks place false)))
  | inr other ↦ (let apart : eqb place scene ≡ false = grind (arith, nat_tests) in
      rw apart (get_or-set_other marks place scene true false other ∙ sym (or-false (slice_index_or marks scene false))))
]

-- the marks of a pair more
pub pair_marked : (pairs : List Pair) (marks : List Bool) (i : ℕ) (d : Pair) → i < length pairs
    → (get_or pairs i d).first < length marks → (get_or pairs i d).then < length marks
    → ((scene : ℕ) → slice_index_or marks scene false ≡ is_paired (take i pairs) scene)
    → (scene : ℕ) → slice_index_or (set (set marks (get_or pairs i d).first true) (get_or pairs i d).then true) scene false ≡ is_paired (take (i + 1) pairs) scene
pair_marked pairs marks i d within first then earlier scene =
    let pair : Pair = get_or pairs i d in
    let room : pair.then < length (set marks pair.first true) = subst (λ (n : ℕ). pair.then < n) (sym (length-set marks pair.first true)) then in
    mark_more (set marks pair.first true) pair.then scene room
    ∙ ap (λ (b : Bool). b || eqb pair.then scene) (mark_more marks pair.first scene first ∙ ap (λ (b : Bool). b || eqb pair.first scene) (earlier scene))
    ∙ or_assoc (is_paired (take i pairs) scene) (eqb pair.first scene) (eqb pair.then scene)
    ∙ sym (list_any_more (λ (p : Pair). eqb p.first scene || eqb p.then scene) pairs i d within)

-- marked where paired, scenes can be joined alike
pub marked_alike : (film : FilmData) (marks : List Bool) → ((scene : ℕ) → slice_index_or marks scene false ≡ is_paired film.pairs scene)
    → can_join_marked film.casts marks ≡ can_join_scenes film
marked_alike film marks same = λ i a b. eqb (slice_index film.casts a) (slice_index film.casts b) && (not (same a i) && not (same b i))

pub marked_out : (casts : List ℕ) (marks : List Bool) (a b : ℕ) → slice_index_or marks a false ≡ true → can_join_marked casts marks a b ≡ false
marked_out casts marks a b marked = rw marked (and-false (eqb (slice_index casts a) (slice_index casts b)))

pub can_join_is : (casts : List ℕ) (marks : List Bool) (a b : ℕ) → slice_index casts a ≡ slice_index casts b
    → slice_index_or marks a false ≡ false → slice_index_or marks b false ≡ false → can_join_marked casts marks a b ≡ true
can_join_is casts marks a b same first second = rw (first, second, eq-eqb (slice_index casts a) (slice_index casts b) same) refl
